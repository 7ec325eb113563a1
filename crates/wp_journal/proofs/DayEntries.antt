-- The entries of a day are those of a journal.
use Rattle.std.proofs.Common.{◌≡◌, ℕ, ◌+◌, ◌<◌, ◌≤◌, ◌&&◌, true, List, [], ◌∷◌, length, All, sym, subst, arith}
use Rattle.std.specs.Prelude.{IsTrue, nat_le, nat_lt}
use Rattle.std.proofs.lemmas.Bool.{le-leb, lt-ltb}
use Rattle.std.proofs.lemmas.List.Elements.{All-cons, All-head, All-nil, All-tail}
use Rattle.wp_model.proofs.Sound.{opening_is_sound, step_keeps_sound}
use Rattle.wp_model.specs.History.{History, IsLegalFrom}
use Rattle.wp_model.specs.Opening.{Opening}
use Rattle.wp_model.specs.Plain.{is_plain}
use Rattle.wp_model.specs.State.{State, opening_state}
use Rattle.wp_model.specs.Step.{step}
use Rattle.wp_model.specs.declared.entry.Entry.{Entry}
use Rattle.wp_journal.specs.Days.{IsAsked, IsDay}
use Rattle.wp_journal.specs.Grammar.{is_line_entry, is_line_reply}
use Rattle.wp_model.specs.Plain.{has_names}
use Rattle.wp_journal.proofs.NamedStates.{opening_is_named}
use Rattle.wp_journal.proofs.ReplyBounds.{Fits, IsDayState, step_fits}
use Rattle.wp_journal.proofs.WordBytes.{and_true}

-- an entry of the journal
abbrev IsWithin : Entry → Type 0
IsWithin entry = IsTrue (is_line_entry entry)

entry_within : (e : Entry) → e.number < 10000 → IsAsked e → is_line_reply e.reply ≡ true → IsWithin e
entry_within e few asked answer =
    let number = lt-ltb e.number 10000 few in
    let desk = and_true (nat_le 1 e.desk) (nat_le e.desk 8) (le-leb 1 e.desk asked.desk.0) (le-leb e.desk 8 asked.desk.1) in
    let command = and_true (is_plain e.command) (has_names e.command) asked.plain asked.names in
    and_true (nat_lt e.number 10000 && (nat_le 1 e.desk && nat_le e.desk 8)) ((is_plain e.command && has_names e.command) && is_line_reply e.reply)
    (and_true (nat_lt e.number 10000) (nat_le 1 e.desk && nat_le e.desk 8) number desk)
    (and_true (is_plain e.command && has_names e.command) (is_line_reply e.reply) command answer)

entries_within : (opening : Opening) (number : ℕ) (state : State) (entries : List Entry) → IsDayState opening state
    → IsLegalFrom opening number state entries → number + length entries ≤ 10000 → All IsAsked entries → All IsWithin entries
entries_within opening number state [] day legal few asked = All-nil IsWithin
entries_within opening number state (entry ∷ entries) day legal few asked =
    let first : IsAsked entry = All-head IsAsked entry entries asked in
    let fits : Fits opening (step opening state entry.command) = step_fits opening state entry.command day first.plain first.names in
    let answer : is_line_reply entry.reply ≡ true = subst (λ reply. is_line_reply reply ≡ true) (sym legal.1) fits.reply in
    let after : IsDayState opening (step opening state entry.command).state = record {
      is = day.is;
      articles = day.articles;
      sound = step_keeps_sound opening state entry.command day.is day.sound;
      named = fits.named;
    } in
    All-cons IsWithin entry entries (entry_within entry (omega (arith, legal.0, few)) first answer)
    (entries_within opening (number + 1) (step opening state entry.command).state entries after legal.2 (omega (arith, few))
    (All-tail IsAsked entry entries asked))

-- each entry of a day is one of a journal
pub day_entries : (history : History) → IsDay history → All (λ entry. IsTrue (is_line_entry entry)) history.entries
day_entries history day =
    let state : IsDayState history.opening (opening_state history.opening) = record {
      is = day.opening;
      articles = day.articles;
      sound = opening_is_sound history.opening day.opening;
      named = opening_is_named history.opening day.opening;
    } in
    entries_within history.opening 0 (opening_state history.opening) history.entries state day.legal (omega (arith, day.few)) day.asked
