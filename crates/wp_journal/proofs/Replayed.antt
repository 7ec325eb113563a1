-- What replays of lines, one after the other, show of them.
use Rattle.std.proofs.Common.{◌≡◌, ◌∙◌, refl, sym, ap, subst, ℕ, ◌+◌, List, [], ◌∷◌, ◌++◌, length, map, inl, inr, arith, length-append}
use Rattle.std.specs.Prelude.{IsTrue}
use Rattle.std.specs.List.{All}
use Rattle.std.proofs.lemmas.List.{length-map}
use Rattle.std.proofs.lemmas.List.Elements.{All-nil, All-push}
use Rattle.wp_model.proofs.Histories.{answered_is_legal}
use Rattle.wp_model.specs.History.{History, answered, next_entry, opened}
use Rattle.wp_model.specs.Journal.{entry_line}
use Rattle.wp_model.specs.Opening.{Opening}
use Rattle.wp_model.specs.declared.command.Command.{Command}
use Rattle.wp_model.specs.declared.entry.Entry.{Entry}
use Rattle.wp_model.specs.declared.reply.Reply.{Reply}
use Rattle.wp_journal.specs.Grammar.{IsLineOf, is_line_entry}
use Rattle.wp_journal.specs.Journals.{IsMisanswered, IsNotNext}
use Rattle.wp_journal.specs.Replays.{LinesBegin}
use Rattle.wp_journal.proofs.Candidates.{one_entry}
use Rattle.wp_journal.proofs.Findings.{longer}
use Rattle.wp_journal.proofs.OneFinding.{Aligned, Follows, IsWithin, align, follows, its_line, same_heads, same_history, within_at}

-- before the first line nothing was answered yet
pub none_replayed : (opening : Opening) (lines : List (List ℕ)) → LinesBegin opening lines (opened opening) lines
none_replayed opening lines =
    record { starts = refl; legal = tt; within = All-nil (λ entry. IsTrue (is_line_entry entry)); lines_are = refl }

longer_begins : (opening : Opening) (lines : List (List ℕ)) (history : History) (next : List ℕ) (others : List (List ℕ)) (desk : ℕ) (command : Command)
    → LinesBegin opening lines history (next ∷ others) → IsLineOf next (next_entry history desk command)
    → LinesBegin opening lines (answered history desk command) others
longer_begins opening lines history next others desk command begins is = record {
  starts = begins.starts;
  legal = answered_is_legal history desk command begins.legal;
  within = All-push (λ entry. IsTrue (is_line_entry entry)) history.entries (next_entry history desk command) begins.within is.within;
  lines_are = begins.lines_are ∙ (ap (λ l. map entry_line history.entries ++ l ∷ others) is.written ∙ longer history (next_entry history desk command) others);
}

-- a line that is taken in leads on
pub lines_lead_on : (opening : Opening) (lines : List (List ℕ)) (before after : History) (next : List ℕ) (others : List (List ℕ))
    → LinesBegin opening lines before (next ∷ others) → (desk : ℕ) (command : Command) → IsLineOf next (next_entry before desk command)
    → after ≡ answered before desk command → LinesBegin opening lines after others
lines_lead_on opening lines before after next others begins desk command is grown =
    subst (λ (history : History). LinesBegin opening lines history others) (sym grown) (longer_begins opening lines before next others desk command begins is)

-- how many lines there are
pub lines_count : (opening : Opening) (lines : List (List ℕ)) (history : History) (left : List (List ℕ)) → LinesBegin opening lines history left
    → length lines ≡ length history.entries + length left
lines_count opening lines history left begins =
    omega (arith, ap length begins.lines_are, length-append (map entry_line history.entries) left, length-map history.entries entry_line)

no_first : (l : List ℕ) (ls : List (List ℕ)) → [] ≡ l ∷ ls → ⊥
no_first l ls e = cc e

-- where all lines are those of a legal history, the line after those of a beginning is that of the next entry
pub next_of_whole : (opening : Opening) (lines : List (List ℕ)) (whole part : History) (next : List ℕ) (others : List (List ℕ))
    → LinesBegin opening lines whole [] → LinesBegin opening lines part (next ∷ others) → (e : Entry) × IsLineOf next e × Follows part e
next_of_whole opening lines whole part next others all begins =
    by (align whole.entries part.entries [] (next ∷ others) all.within begins.within (sym all.lines_are ∙ begins.lines_are))
  where
    by : Aligned whole.entries part.entries [] (next ∷ others) → (e : Entry) × IsLineOf next e × Follows part e
    by (inl (entries, lefts)) = absurd (no_first next others lefts)
    by (inr (inl (e, es, entries, lefts))) = absurd (no_first (entry_line e) (map entry_line es ++ (next ∷ others)) lefts)
    by (inr (inr (e, es, entries, lefts))) = (
      e,
      subst (λ (text : List ℕ). IsLineOf text e) (same_heads (entry_line e) next (map entry_line es ++ []) others (sym lefts))
          (its_line e (within_at part.entries e es (subst (All IsWithin) entries all.within))),
      follows opening part whole e es begins.starts all.starts all.legal entries,
    )

-- so it isn't the line of no next entry
pub whole_has_next : (opening : Opening) (lines : List (List ℕ)) (whole part : History) (next : List ℕ) (others : List (List ℕ))
    → LinesBegin opening lines whole [] → LinesBegin opening lines part (next ∷ others) → IsNotNext part next → ⊥
whole_has_next opening lines whole part next others all begins none =
    let (e, is, follows) = next_of_whole opening lines whole part next others all begins in none e is follows.0

-- nor of one with another reply than the machine's
pub whole_is_answered : (opening : Opening) (lines : List (List ℕ)) (whole part : History) (next : List ℕ) (others : List (List ℕ)) (number : ℕ)
    (printed right : Reply) → LinesBegin opening lines whole [] → LinesBegin opening lines part (next ∷ others)
    → IsMisanswered part next number printed right → ⊥
whole_is_answered opening lines whole part next others number printed right all begins wrong =
    let (e, is, follows) = next_of_whole opening lines whole part next others all begins in
    let same = one_entry next wrong.entry e wrong.is is in
    wrong.differ (wrong.answered ∙ ap (λ (x : Entry). x.reply) same ∙ follows.1
    ∙ sym (ap (λ (x : Entry). (next_entry part x.desk x.command).reply) same) ∙ sym wrong.wanted)

-- and the history is the only one
pub one_whole : (opening : Opening) (lines : List (List ℕ)) (a b : History) → LinesBegin opening lines a [] → LinesBegin opening lines b [] → a ≡ b
one_whole opening lines a b p q = by (align a.entries b.entries [] [] p.within q.within (sym p.lines_are ∙ q.lines_are))
  where
    by : Aligned a.entries b.entries [] [] → a ≡ b
    by (inl (entries, lefts)) = same_history opening a b p.starts q.starts entries
    by (inr (inl (e, es, entries, lefts))) = absurd (no_first (entry_line e) (map entry_line es ++ []) lefts)
    by (inr (inr (e, es, entries, lefts))) = absurd (no_first (entry_line e) (map entry_line es ++ []) lefts)
