-- The journal of a plan is right: each of its entries answers what a desk's script asks, within the bounds of a journal.
use Rattle.std.proofs.Common.{◌≡◌, ◌≢◌, ◌∙◌, refl, sym, ap, subst, ℕ, zero, suc, ◌+◌, ◌<◌, ◌≤◌, ◌==◌, List, [], ◌∷◌, ◌++◌, Option, length, inl, inr, arith}
use Rattle.std.proofs.Common.{eq-eqb, leb-true, ne_eqb}
use Rattle.std.proofs.Common.{append_assoc, length-append}
use Rattle.std.proofs.lemmas.Bool.{cases_eq, cond-false, cond-true}
use Rattle.std.proofs.lemmas.List.Elements.{All-append, All-cons, All-head, All-nil, All-tail, All-weaker}
use Rattle.std.proofs.lemmas.List.{take-append-drop}
use Rattle.std.proofs.lemmas.List.Sums.{sum_by-append, sum_by-cons}
use Rattle.std.proofs.lemmas.Option.{IfSome_then, slice_get_cases}
use Rattle.std.specs.List.{All, sum_by}
use Rattle.std.specs.Prelude.{⊤, ◌&&◌, IfSome, IsTrue, Some, codes, drop, nat_le, nat_lt, slice_get, take}
use Rattle.wp_desk.specs.GoingOn.{new_entries}
use Rattle.wp_floor.proofs.Floors.{is_opening}
use Rattle.wp_journal.proofs.DayJournals.{day_journal}
use Rattle.wp_journal.proofs.Phrases.{both}
use Rattle.wp_journal.proofs.Replayed.{lines_count}
use Rattle.wp_journal.specs.Days.{IsAsked, IsDay}
use Rattle.wp_journal.specs.Grammar.{is_line_entry, is_line_reply}
use Rattle.wp_journal.specs.Journals.{IsJournalOf}
use Rattle.wp_model.specs.History.{History, Script, part_of, script_of, state_after}
use Rattle.wp_model.specs.Journal.{journal, line}
use Rattle.wp_model.specs.Name.{is_name}
use Rattle.wp_model.specs.Opening.{IsOpening, Opening}
use Rattle.wp_model.specs.Plain.{has_names, is_plain}
use Rattle.wp_model.specs.Tables.{AreReadScripts, IsReadOpening}
use Rattle.wp_model.specs.declared.command.Command.{Command}
use Rattle.wp_model.specs.declared.entry.Entry.{Entry}
use Rattle.wp_planner.specs.Crews.{crew_text}
use Rattle.wp_top.specs.Runs.{Day, IsHistoryOf, IsPlan, IsTextOf, command_count}
use Rattle.wp_words.specs.Words.{PlanNames}
use Rattle.wp_top.specs.Sections.{output_of, refills_section, refills_told, stock_section}
use Rattle.wp_top.specs.Sheets.{terms_of}
use Rattle.wp_top.specs.Stores.{Held, IsBegun}
use Rattle.wp_top.specs.Texts.{Said, opening_with}
use Rattle.wp_top.proofs.Writing.{take_more}

-- scripts of desks that are numbered on from the one after this
abbrev AreNumbered : ℕ → List Script → Type 0
AreNumbered before [] = ⊤
AreNumbered before (script ∷ scripts) = (script.desk ≡ before + 1) × AreNumbered (before + 1) scripts

numbered_on : (before : ℕ) (scripts : List Script) → ((i : ℕ) → IfSome (slice_get scripts i) (λ script. script.desk ≡ before + i + 1))
    → AreNumbered before scripts
numbered_on before [] each = tt
numbered_on before (script ∷ scripts) each = (
  omega (arith, each 0),
  numbered_on (before + 1) scripts (λ i. IfSome_then (slice_get scripts i) (each (suc i)) (λ s is. omega (arith, is))),
)

-- scripts that were read are numbered from 1
numbered_from_1 : (scripts : List Script) → AreReadScripts scripts → AreNumbered 0 scripts
numbered_from_1 scripts are = numbered_on 0 scripts (λ i. IfSome_then (slice_get scripts i) (are.numbered i) (λ s is. omega (arith, is)))

-- the command of an entry heads the part of its desk
own_part : (desk : ℕ) (entry : Entry) (entries : List Entry) → entry.desk ≡ desk → part_of desk (entry ∷ entries) ≡ entry.command ∷ part_of desk entries
own_part desk entry entries own =
    cond-true (entry.desk == desk) (entry.command ∷ part_of desk entries) (part_of desk entries) (eq-eqb entry.desk desk own)

-- and is in no other part
other_part : (desk : ℕ) (entry : Entry) (entries : List Entry) → entry.desk ≢ desk → part_of desk (entry ∷ entries) ≡ part_of desk entries
other_part desk entry entries differs =
    cond-false (entry.desk == desk) (entry.command ∷ part_of desk entries) (part_of desk entries) (ne_eqb entry.desk desk differs)

-- a desk's script is the first of that desk
own_script : (desk : ℕ) (script : Script) (scripts : List Script) → script.desk ≡ desk → script_of (script ∷ scripts) desk ≡ script.commands
own_script desk script scripts own =
    cond-true (script.desk == desk) script.commands (script_of scripts desk) (eq-eqb script.desk desk own)

-- and no other before it
other_script : (desk : ℕ) (script : Script) (scripts : List Script) → script.desk ≢ desk → script_of (script ∷ scripts) desk ≡ script_of scripts desk
other_script desk script scripts differs =
    cond-false (script.desk == desk) script.commands (script_of scripts desk) (ne_eqb script.desk desk differs)

-- a command that a desk may ask, where the desk is within a range
record MayAsk (before last desk : ℕ) (command : Command) : Type 0 where
  after : before < desk
  within : desk ≤ last
  plain : IsTrue (is_plain command)
  names : IsTrue (has_names command)

-- commands that a desk may ask
each_may : (before last desk : ℕ) (commands : List Command) → before < desk → desk ≤ last → All (λ c. IsTrue (is_plain c)) commands
    → All (λ c. IsTrue (has_names c)) commands → All (MayAsk before last desk) commands
each_may before last desk [] after within plain names = All-nil (MayAsk before last desk)
each_may before last desk (command ∷ commands) after within plain names =
    let P : Command → Type 0 = λ c. IsTrue (is_plain c) in
    let N : Command → Type 0 = λ c. IsTrue (has_names c) in
    All-cons (MayAsk before last desk) command commands
    (record { after = after; within = within; plain = All-head P command commands plain; names = All-head N command commands names })
    (each_may before last desk commands after within (All-tail P command commands plain) (All-tail N command commands names))

wider : (before last desk : ℕ) (commands : List Command) → All (MayAsk (before + 1) last desk) commands → All (MayAsk before last desk) commands
wider before last desk commands all = All-weaker (MayAsk (before + 1) last desk) (MayAsk before last desk)
    (λ c may. record { after = omega (arith, may.after); within = may.within; plain = may.plain; names = may.names }) commands all

-- what scripts ask may be asked, and by their desks alone
scripts_may : (before last : ℕ) (scripts : List Script) (desk : ℕ) → AreNumbered before scripts → before + length scripts ≤ last
    → All (λ s. All (λ c. IsTrue (is_plain c)) s.commands) scripts → All (λ s. All (λ c. IsTrue (has_names c)) s.commands) scripts
    → All (MayAsk before last desk) (script_of scripts desk)
scripts_may before last [] desk numbered few plain names = All-nil (MayAsk before last desk)
scripts_may before last (script ∷ scripts) desk (own, more) few plain names =
    let P : Script → Type 0 = λ s. All (λ c. IsTrue (is_plain c)) s.commands in
    let N : Script → Type 0 = λ s. All (λ c. IsTrue (has_names c)) s.commands in
    elim (cases_eq script.desk desk) [
      | inl is ↦
          subst (All (MayAsk before last desk)) (sym (own_script desk script scripts is))
          (each_may before last desk script.commands (omega (arith, own, is)) (omega (arith, own, is, few)) (All-head P script scripts plain)
          (All-head N script scripts names))
      | inr differs ↦
          subst (All (MayAsk before last desk)) (sym (other_script desk script scripts differs))
          (wider before last desk (script_of scripts desk)
          (scripts_may (before + 1) last scripts desk more (omega (arith, few)) (All-tail P script scripts plain) (All-tail N script scripts names)))
    ]

-- an entry is of a desk that may ask its command
abbrev MayBe : ℕ → Entry → Type 0
MayBe last entry = MayAsk 0 last entry.desk entry.command

-- each is so, since it is in the part of its desk
each_may_be : (last : ℕ) (entries : List Entry) → ((desk : ℕ) → All (MayAsk 0 last desk) (part_of desk entries)) → All (MayBe last) entries
each_may_be last [] parts = All-nil (MayBe last)
each_may_be last (entry ∷ entries) parts =
    All-cons (MayBe last) entry entries
    (All-head (MayAsk 0 last entry.desk) entry.command (part_of entry.desk entries)
    (subst (All (MayAsk 0 last entry.desk)) (own_part entry.desk entry entries refl) (parts entry.desk)))
    (each_may_be last entries (λ desk. elim (cases_eq entry.desk desk) [
      | inl own ↦
          All-tail (MayAsk 0 last desk) entry.command (part_of desk entries)
          (subst (All (MayAsk 0 last desk)) (own_part desk entry entries own) (parts desk))
      | inr differs ↦ subst (All (MayAsk 0 last desk)) (other_part desk entry entries differs) (parts desk)
    ]))

-- how many entries are in the parts of the scripts' desks
abbrev parts_count : List Entry → List Script → ℕ
parts_count entries scripts = sum_by (λ s. length (part_of s.desk entries)) scripts

parts_cons : (entries : List Entry) (script : Script) (scripts : List Script)
    → parts_count entries (script ∷ scripts) ≡ length (part_of script.desk entries) + parts_count entries scripts
parts_cons entries script scripts = sum_by-cons (λ (s : Script). length (part_of s.desk entries)) script scripts

-- an entry of a desk before them is in no part
none_more : (before : ℕ) (entry : Entry) (entries : List Entry) (scripts : List Script) → AreNumbered before scripts → entry.desk ≤ before
    → parts_count (entry ∷ entries) scripts ≡ parts_count entries scripts
none_more before entry entries [] numbered early = refl
none_more before entry entries (script ∷ scripts) (own, more) early =
    omega (
      arith,
      parts_cons (entry ∷ entries) script scripts,
      parts_cons entries script scripts,
      ap length (other_part script.desk entry entries (λ is. omega (arith, own, early, is))),
      none_more (before + 1) entry entries scripts more (omega (arith, early)),
    )

-- an entry of one of the desks is in one part
one_more : (before : ℕ) (entry : Entry) (entries : List Entry) (scripts : List Script) → AreNumbered before scripts → before < entry.desk
    → entry.desk ≤ before + length scripts → parts_count (entry ∷ entries) scripts ≡ parts_count entries scripts + 1
one_more before entry entries [] numbered after within = absurd (omega (arith, after, within))
one_more before entry entries (script ∷ scripts) (own, more) after within = elim (cases_eq entry.desk script.desk) [
  | inl is ↦
      omega (
        arith,
        parts_cons (entry ∷ entries) script scripts,
        parts_cons entries script scripts,
        ap length (own_part script.desk entry entries is),
        none_more (before + 1) entry entries scripts more (omega (arith, own, is)),
      )
  | inr differs ↦
      omega (
        arith,
        parts_cons (entry ∷ entries) script scripts,
        parts_cons entries script scripts,
        ap length (other_part script.desk entry entries differs),
        one_more (before + 1) entry entries scripts more (omega (arith, own, after, differs)) (omega (arith, within)),
      )
]

no_parts : (scripts : List Script) → parts_count [] scripts ≡ 0
no_parts [] = refl
no_parts (script ∷ scripts) = omega (arith, parts_cons [] script scripts, no_parts scripts)

-- entries of the scripts' desks are as many as their parts have together
entries_count : (entries : List Entry) (scripts : List Script) → AreNumbered 0 scripts
    → All (MayBe (length scripts)) entries → length entries ≡ parts_count entries scripts
entries_count [] scripts numbered desks = sym (no_parts scripts)
entries_count (entry ∷ entries) scripts numbered desks =
    let here = All-head (MayBe (length scripts)) entry entries desks in
    omega (
      arith,
      one_more 0 entry entries scripts numbered here.after (omega (arith, here.within)),
      entries_count entries scripts numbered (All-tail (MayBe (length scripts)) entry entries desks),
    )

-- parts that are the scripts of later desks
later_parts : (before : ℕ) (entries : List Entry) (script : Script) (scripts : List Script) → script.desk ≡ before + 1
    → ((desk : ℕ) → before < desk → part_of desk entries ≡ script_of (script ∷ scripts) desk) → (desk : ℕ) → before + 1 < desk
    → part_of desk entries ≡ script_of scripts desk
later_parts before entries script scripts own parts desk later =
    parts desk (omega (arith, later)) ∙ other_script desk script scripts (λ is. omega (arith, own, is, later))

-- parts that are scripts have together as many entries as the scripts have commands
commands_count : (before : ℕ) (entries : List Entry) (scripts : List Script) → AreNumbered before scripts
    → ((desk : ℕ) → before < desk → part_of desk entries ≡ script_of scripts desk) → parts_count entries scripts ≡ command_count scripts
commands_count before entries [] numbered parts = refl
commands_count before entries (script ∷ scripts) (own, more) parts =
    omega (
      arith,
      parts_cons entries script scripts,
      sum_by-cons (λ (s : Script). length s.commands) script scripts,
      ap length (parts script.desk (omega (arith, own)) ∙ own_script script.desk script scripts refl),
      commands_count (before + 1) entries scripts more (later_parts before entries script scripts own parts),
    )

-- what an opening keeps it keeps with any units
same_opening : (opening : Opening) (units : Option ℕ) → IsOpening opening → IsOpening (opening_with opening units)
same_opening opening units is = record { rows = is.rows; orders = is.orders }

-- each new entry of a history is of a desk that may ask its command
history_asks : (opening : Opening) (scripts : List Script) (start history : History) → AreReadScripts scripts → IsHistoryOf opening scripts start history
    → All (MayBe (length scripts)) (new_entries start history)
history_asks opening scripts start history are answers =
    let last = length scripts in
    each_may_be last (new_entries start history) (λ desk. subst (All (MayAsk 0 last desk)) (sym (answers.parts desk))
    (scripts_may 0 last scripts desk (numbered_from_1 scripts are) (omega arith) are.plain are.named))

-- and it has a new entry for each command of the scripts
pub history_count : (opening : Opening) (scripts : List Script) (start history : History) → AreReadScripts scripts
    → IsHistoryOf opening scripts start history → length (new_entries start history) ≡ command_count scripts
history_count opening scripts start history are answers =
    let numbered = numbered_from_1 scripts are in
    entries_count (new_entries start history) scripts numbered (history_asks opening scripts start history are answers)
    ∙ commands_count 0 (new_entries start history) scripts numbered (λ desk after. answers.parts desk)

is_first : (first script : Script) → Some first ≡ Some script → first ≡ script
is_first first script is = cc is

from_none : (i : ℕ) → i + 1 ≡ 0 + i + 1
from_none i = omega arith

-- the script at a place is that of the next desk
script_at : (before : ℕ) (scripts : List Script) (i : ℕ) (script : Script) → AreNumbered before scripts → slice_get scripts i ≡ Some script
    → script_of scripts (before + i + 1) ≡ script.commands
script_at before [] i script numbered is = absurd (cc is)
script_at before (first ∷ scripts) zero script (own, more) is =
    own_script (before + 0 + 1) first scripts (omega (arith, own)) ∙ ap (λ (s : Script). s.commands) (is_first first script is)
script_at before (first ∷ scripts) (suc i) script (own, more) is =
    other_script (before + suc i + 1) first scripts (λ same. omega (arith, own, same))
    ∙ (ap (script_of scripts) (next before i) ∙ script_at (before + 1) scripts i script more is)
  where
    next : (b i : ℕ) → b + suc i + 1 ≡ (b + 1) + i + 1
    next b i = omega arith

-- so the commands of the first desks and of the next one are those of one desk more
pub commands_more : (scripts : List Script) (i : ℕ) → AreReadScripts scripts → i < length scripts
    → command_count (take (i + 1) scripts) ≡ command_count (take i scripts) + length (script_of scripts (i + 1))
commands_more scripts i are there =
    elim (slice_get_cases scripts i).1 [
      | inl (script, within, is, at) ↦
          ap command_count (take_more scripts i script is) ∙ (sum_by-append (λ (s : Script). length s.commands) (take i scripts) (script ∷ [])
          ∙ omega (
            arith,
            sum_by-cons (λ (s : Script). length s.commands) script [],
            ap length (ap (script_of scripts) (from_none i) ∙ script_at 0 scripts i script (numbered_from_1 scripts are) is),
          ))
      | inr (past, none) ↦ absurd (omega (arith, past, there))
    ]

-- and the first desks have no more than all
pub most_commands_up_to : (scripts : List Script) (i : ℕ) → AreReadScripts scripts → command_count (take i scripts) ≤ 10000
most_commands_up_to scripts i are =
    omega (
      arith,
      are.most,
      ap command_count (sym (take-append-drop i scripts)),
      sum_by-append (λ (s : Script). length s.commands) (take i scripts) (drop i scripts),
    )

-- an entry of a journal answers what a desk may ask
line_asked : (e : Entry) → IsTrue (is_line_entry e) → IsAsked e
line_asked e is =
    let halves = both (nat_lt e.number 10000 && (nat_le 1 e.desk && nat_le e.desk 8))
    ((is_plain e.command && has_names e.command) && is_line_reply e.reply) is in
    let desks = both (nat_le 1 e.desk) (nat_le e.desk 8) (both (nat_lt e.number 10000) (nat_le 1 e.desk && nat_le e.desk 8) halves.0).1 in
    let commands = both (is_plain e.command) (has_names e.command) (both (is_plain e.command && has_names e.command) (is_line_reply e.reply) halves.1).0 in
    record { desk = (leb-true 1 e.desk desks.0, leb-true e.desk 8 desks.1); plain = commands.0; names = commands.1 }

-- a history that goes on from entries of a journal with those of scripts that were read, and isn't too long, is that of a day
pub day_is : (opening : Opening) (scripts : List Script) (start history : History) → IsOpening opening
    → All (λ article. IsTrue (is_name article)) opening.stock.articles → AreReadScripts scripts
    → All (λ entry. IsTrue (is_line_entry entry)) start.entries → length start.entries + command_count scripts ≤ 10000
    → IsHistoryOf opening scripts start history → IsDay history × (length history.entries ≡ length start.entries + command_count scripts)
day_is opening scripts start history is named are within few answers =
    let new = new_entries start history in
    let entries : history.entries ≡ start.entries ++ new = ap (λ (h : History). h.entries) answers.goes_on in
    let count : length history.entries ≡ length start.entries + command_count scripts =
    omega (arith, ap length entries, length-append start.entries new, history_count opening scripts start history are answers) in
    let new_asked = All-weaker (MayBe (length scripts)) IsAsked (λ e may. record {
      desk = (omega (arith, may.after), omega (arith, may.within, are.few));
      plain = may.plain;
      names = may.names;
    }) new (history_asks opening scripts start history are answers) in (
      record {
        opening = subst IsOpening (sym answers.starts) is;
        articles = subst (λ (o : Opening). All (λ article. IsTrue (is_name article)) o.stock.articles) (sym answers.starts) named;
        legal = answers.legal;
        few = omega (arith, count, few);
        asked = subst (All IsAsked) (sym entries) (All-append IsAsked start.entries new
            (All-weaker (λ e. IsTrue (is_line_entry e)) IsAsked line_asked start.entries within) new_asked);
      },
      count,
    )

-- the history with which a day begins has entries of a journal, which with those of the scripts aren't too many
record BeginsWell (commands : ℕ) (start : History) : Type 0 where
  within : All (λ entry. IsTrue (is_line_entry entry)) start.entries
  few : length start.entries + commands ≤ 10000

begun_well : (held : Held) (store : ℕ) (opening : Opening) (commands : ℕ) (start : History) → commands ≤ 10000
    → IsBegun held store opening commands start → BeginsWell commands start
begun_well held store opening commands start few begun = elim (cases_eq store 1) [
  | inl uses ↦
      let from = begun.stored uses in
      record { within = from.begins.within; few = omega (arith, lines_count opening from.bodies start [] from.begins, from.few) }
  | inr fresh ↦
      subst (BeginsWell commands) (sym (begun.without fresh))
      (record { within = All-nil (λ (entry : Entry). IsTrue (is_line_entry entry)); few = omega (arith, few) })
]

-- the history of a plan is that of a day, with an entry for each of the history with which it began and for each command
plan_is_day : (held : Held) (names : PlanNames) (said : Said) (day : Day) → IsReadOpening said.opening → AreReadScripts said.scripts
    → IsBegun held names.store (opening_with said.opening names.units) (command_count said.scripts) day.start
    → IsPlan said.layout (opening_with said.opening names.units) said.scripts (terms_of names) day
    → IsDay day.history × (length day.history.entries ≡ length day.start.entries + command_count said.scripts)
plan_is_day held names said day read are begun plan =
    let opening = opening_with said.opening names.units in
    let well = begun_well held names.store opening (command_count said.scripts) day.start are.most begun in
    day_is opening said.scripts day.start day.history (same_opening said.opening names.units (is_opening said.opening read)) read.stock.named are
    well.within well.few plan.answers

-- the output of a plan is a right journal
pub plan_journal : (held : Held) (names : PlanNames) (said : Said) (day : Day) (output : List ℕ) → IsReadOpening said.opening → AreReadScripts said.scripts
    → IsBegun held names.store (opening_with said.opening names.units) (command_count said.scripts) day.start
    → IsPlan said.layout (opening_with said.opening names.units) said.scripts (terms_of names) day
    → IsTextOf (terms_of names) day output
    → IsJournalOf (opening_with said.opening names.units) output (length day.start.entries + command_count said.scripts)
plan_journal held names said day output read are begun plan text =
    let whole = plan_is_day held names said day read are begun plan in
    let history = day.history in
    let entries = length day.start.entries + command_count said.scripts in
    let first = journal history.entries in
    let sheets = text.sheets in
    let crew = crew_text text.crew in
    let told = refills_told day.start history in
    let refills = refills_section history.opening.stock told ++ crew in
    let stock = stock_section history.opening.stock (state_after history).rows in
    let last = line (codes "end") in
    let more = sheets ++ refills ++ stock ++ last in
    let parts : output_of history sheets told crew ≡ first ++ more =
    ap (λ text. text ++ last) (ap (λ text. text ++ stock) (append_assoc (first ++ sheets) _ crew ∙ append_assoc first sheets refills)
    ∙ append_assoc first (sheets ++ refills) stock)
    ∙ append_assoc first (sheets ++ refills ++ stock) last in
    let right : IsJournalOf history.opening (first ++ more) (length history.entries) = day_journal history more whole.0 in
    let counted : IsJournalOf history.opening (first ++ more) entries = subst (λ n. IsJournalOf history.opening (first ++ more) n) whole.1 right in
    let opened : IsJournalOf (opening_with said.opening names.units) (first ++ more) entries =
    subst (λ (o : Opening). IsJournalOf o (first ++ more) entries) plan.answers.starts counted in
    subst (λ text. IsJournalOf (opening_with said.opening names.units) text entries) (sym (text.is ∙ parts)) opened
