-- What a run of `waves` has to end with, by what its files hold.
use Rattle.std.proofs.Common.{◌≡◌, ◌∙◌, refl, sym, ap, ap₂, subst, ℕ, ◌<◌, ◌⊎◌, inl, inr, List, Option, Some, None, Result, Ok, Err, length, arith}
use Rattle.std.specs.Prelude.{IfSome}
use Rattle.wp_journal.proofs.OneFinding.{counted, shows_one}
use Rattle.wp_journal.specs.Journals.{IsJournalOfHistory, Shows}
use Rattle.wp_journal.specs.declared.verdict.Audit.{Audit}
use Rattle.wp_journal.specs.declared.verdict.AuditFault.{AuditFault}
use Rattle.wp_model.specs.History.{History}
use Rattle.wp_model.specs.Opening.{Opening}
use Rattle.wp_model.specs.Warehouse.{Layout}
use Rattle.wp_outside.specs.Outside.{FilesTold}
use Rattle.wp_top.proofs.KeptPromise.{none_bad, not_both}
use Rattle.wp_top.proofs.RisenCounts.{bad_before_rise, none_rose}
use Rattle.wp_top.proofs.ToldFiles.{none_refused, one_said, told_text}
use Rattle.wp_top.specs.Stops.{IsRead, status_number, tables_said}
use Rattle.wp_top.specs.Texts.{IsHeld, IsTold, Said, opening_with, text_in}
use Rattle.wp_top.specs.declared.complaint.Complaint.TheVariants as shared
use Rattle.wp_top.specs.declared.input.Input.{Input}
use Rattle.wp_top.specs.declared.input.Refusal.{Refusal}
use Rattle.wp_waves.specs.declared.open_orders.OpenOrder.{OpenOrder}
use Rattle.wp_waves_top.specs.Ends.{Asked, End, IsEnding, OfAsked, complains, gives, status_of}
use Rattle.wp_waves_top.specs.Inputs.{AreGoodInputs, AreSafeTables, IsBadInput, IsBadJournal, IsBadOpen, IsFalseJournal, IsSafe, IsSafeOpen, tables_of}
use Rattle.wp_waves_top.specs.Promise.{Course}
use Rattle.wp_waves_top.specs.Runs.{IsOpenRisen, IsRefusedFile, IsRefusedOpen, IsRisenFile, IsWavesOutput, IsWrongJournal}
use Rattle.wp_waves_top.specs.Texts.{AreTables, Holds, IsDayBefore, IsOpenFile, open_in}
use Rattle.wp_waves_top.specs.declared.complaint.OpenRefusal.{OpenRefusal}
use Rattle.wp_waves_top.specs.declared.complaint.WavesComplaint.TheVariants as complaint
use Rattle.wp_waves_words.specs.Words.{WavesNames}
use Rattle.wp_words.specs.declared.fault.WordsFault.{WordsFault}
use Rattle.wp_top.specs.declared.complaint.Finding.{Finding}

-- what is asked for are the waves of one list of names
names_are : (asked : Asked) (a b : WavesNames) → asked ≡ Ok a → asked ≡ Ok b → a ≡ b
names_are asked a b p q = let same : ◌≡◌ {A = Asked} (Ok a) (Ok b) = sym p ∙ q in cc same

of_names : (asked : Asked) (names : WavesNames) (Is : WavesNames → Type 0) → asked ≡ Ok names → OfAsked asked Is → Is names
of_names asked names Is is (other, asked_for, holds) = subst Is (names_are asked other names asked_for is) holds

-- what a name holds that is told is one text
one_text : (holds : Holds) (name told a b : List ℕ) → IsTold holds name told → IsHeld holds name a → IsHeld holds name b → a ≡ b
one_text holds name told a b is held other = told_text holds name told a is held ∙ sym (told_text holds name told b is other)

name_is : (given : Option (List ℕ)) (a b : List ℕ) → given ≡ Some a → given ≡ Some b → a ≡ b
name_is given a b p q = let same : ◌≡◌ {A = Option (List ℕ)} (Some a) (Some b) = sym p ∙ q in cc same

at_name : (P : List ℕ → Type 0) (given : Option (List ℕ)) (name : List ℕ) → given ≡ Some name → IfSome given P → P name
at_name P given name is holds = subst (λ (o : Option (List ℕ)). IfSome o P) is holds

for_name : (P : List ℕ → Type 0) (given : Option (List ℕ)) (name : List ℕ) → given ≡ Some name → P name → IfSome given P
for_name P given name is holds = subst (λ (o : Option (List ℕ)). IfSome o P) (sym is) holds

-- the count of a safe name didn't rise
no_rise : (old new : FilesTold) (given : Option (List ℕ)) (name : List ℕ) → given ≡ Some name → IfSome given (IsSafe old new)
    → old.faults name < new.faults name → ⊥
no_rise old new given name is safe rose = omega (arith, rose, (at_name (IsSafe old new) given name is safe).stands)

-- safe tables say one opening
opening_is : (a b : Opening) → opening_with a None ≡ opening_with b None → a.units ≡ b.units → a ≡ b
opening_is a b same units = ap₂ opening_with same units

one_opening : (old new : FilesTold) (names : WavesNames) (layout other : Layout) (opening more : Opening) → AreSafeTables old new names layout opening
    → AreTables (IsHeld old.holds) names other more → more ≡ opening
one_opening old new names layout other opening more safe tables =
    let same = one_said old.holds (tables_of names) (tables_said other more) (tables_said layout opening) tables.said safe.tables.said in
    opening_is more opening (ap (λ (s : Said). s.opening) same) (tables.units ∙ sym safe.tables.units)

-- a text is accepted or refused, and not both
open_once : (l : List OpenOrder) (why : OpenRefusal) → ◌≡◌ {A = Result (List OpenOrder) OpenRefusal} (Ok l) (Err why) → ⊥
open_once l why same = cc same

text_once : (text : List ℕ) (why : Refusal) → ◌≡◌ {A = Result (List ℕ) Refusal} (Ok text) (Err why) → ⊥
text_once text why same = cc same

-- an open file that is refused says no open orders
refused_says_none : (old new : FilesTold) (names : WavesNames) (layout : Layout) (opening : Opening) (listed : Option (List OpenOrder))
    → IsBadOpen old new names → AreTables (IsHeld old.holds) names layout opening → IsOpenFile old.holds opening.orders names.open_file listed → ⊥
refused_says_none old new names layout opening listed bad tables says =
    said listed (subst (λ (o : Option (List ℕ)). IsOpenFile old.holds opening.orders o listed) bad.named says)
  where
    said : (listed : Option (List OpenOrder)) → IsOpenFile old.holds opening.orders (Some bad.name) listed → ⊥
    said None none = none
    said (Some l) (text, held, accepted) =
        let same = one_text old.holds bad.name bad.safe.text text bad.text bad.safe.told held bad.held in
        let opens = one_opening old new names bad.layout layout bad.opening opening bad.tables tables in
        open_once l bad.why (sym accepted ∙ ap₂ (λ (o : Opening) (t : List ℕ). open_in o.orders t) opens same ∙ bad.refused)

-- a journal that is refused isn't short enough to be read
refused_is_long : (old new : FilesTold) (names : WavesNames) (name text : List ℕ) → IsBadJournal old new names → names.journal ≡ Some name
    → IsRead old.holds name text → ⊥
refused_is_long old new names name text bad named read =
    let is = name_is names.journal name bad.name named bad.named in
    let held : IsHeld old.holds bad.name text = subst (λ (n : List ℕ). IsHeld old.holds n text) is read.held in
    let (other, other_held, why, refused) = bad.why in
    let same = one_text old.holds bad.name bad.safe.text text other bad.safe.told held other_held in
    text_once text why (sym read.short ∙ ap text_in same ∙ refused)

-- with words that ask for no waves
pub ends_for_words : (asked : Asked) (run : Course) (e : End) (why : WordsFault) → IsEnding asked run.files run.files' e → asked ≡ Err why
    → status_number (status_of e) ≡ 1
ends_for_words asked run (gives text) w is bad = absurd (not_both asked is.0 w is.1 bad)
ends_for_words asked run (complains (complaint.Shared (shared.Words why))) w is bad = refl
ends_for_words asked run (complains (complaint.Shared (shared.Refused f why))) w is bad = absurd (not_both asked is.0 w is.1 bad)
ends_for_words asked run (complains (complaint.Shared (shared.Fault f))) w is bad = absurd (not_both asked is.0 w is.1 bad)
ends_for_words asked run (complains (complaint.Shared (shared.Wrong found))) w is bad = absurd (not_both asked is.0 w is.1 bad)
ends_for_words asked run (complains (complaint.Shared shared.Store)) w is bad = absurd is
ends_for_words asked run (complains (complaint.OpenRefused why)) w is bad = absurd (not_both asked is.0 w is.1 bad)
ends_for_words asked run (complains complaint.OpenFault) w is bad = absurd (not_both asked is.0 w is.1 bad)

-- a file that is told and refused lets nothing else come
bad_no_output : (old new : FilesTold) (names : WavesNames) (text : List ℕ) → IsWavesOutput names old new text → IsBadInput old new names → ⊥
bad_no_output old new names text out (inl bad) = none_bad old new (tables_of names) (tables_said out.layout out.opening) out.tables.said bad
bad_no_output old new names text out (inr (inl bad)) =
    refused_says_none old new names out.layout out.opening out.listed bad out.tables out.open_file
bad_no_output old new names text out (inr (inr bad)) =
    let day = subst (λ (o : Option (List ℕ)). IsDayBefore old.holds out.opening o out.history) bad.named out.before in
    refused_is_long old new names bad.name day.0 bad bad.named day.1

bad_no_rise : (old new : FilesTold) (names : WavesNames) (kind : Input) → IsRisenFile names old new kind → IsBadInput old new names → ⊥
bad_no_rise old new names kind (inl rose) (inl bad) = bad_before_rise (tables_of names) old new kind bad rose
bad_no_rise old new names kind (inl rose) (inr (inl bad)) = none_rose (tables_of names) old new kind bad.tables.stand rose
bad_no_rise old new names kind (inl rose) (inr (inr bad)) = none_rose (tables_of names) old new kind bad.before.tables.stand rose
bad_no_rise old new names kind (inr (is, at)) (inl bad) = none_bad old new (tables_of names) (tables_said at.layout at.opening) at.tables.said bad
bad_no_rise old new names kind (inr (is, at)) (inr (inl bad)) =
    refused_says_none old new names at.layout at.opening at.listed bad at.tables at.open_file
bad_no_rise old new names kind (inr (is, at)) (inr (inr bad)) =
    no_rise old new names.journal at.name at.named (for_name (IsSafe old new) names.journal bad.name bad.named bad.safe) at.why

bad_no_wrong : (old new : FilesTold) (names : WavesNames) (found : Finding) → IsWrongJournal names old new found → IsBadInput old new names → ⊥
bad_no_wrong old new names found (fault, is, at) (inl bad) =
    none_bad old new (tables_of names) (tables_said at.layout at.opening) at.tables.said bad
bad_no_wrong old new names found (fault, is, at) (inr (inl bad)) =
    refused_says_none old new names at.layout at.opening at.listed bad at.tables at.open_file
bad_no_wrong old new names found (fault, is, at) (inr (inr bad)) = refused_is_long old new names at.name at.why.0 bad at.named at.why.1

bad_no_open_rise : (old new : FilesTold) (names : WavesNames) → IsOpenRisen names old new → IsBadInput old new names → ⊥
bad_no_open_rise old new names at (inl bad) = none_bad old new (tables_of names) (tables_said at.layout at.opening) at.tables.said bad
bad_no_open_rise old new names at (inr (inl bad)) =
    no_rise old new names.open_file at.name at.named (for_name (IsSafe old new) names.open_file bad.name bad.named bad.safe) at.why
bad_no_open_rise old new names at (inr (inr bad)) = no_rise old new names.open_file at.name at.named bad.before.safe at.why

-- with a file that is told and refused
pub ends_for_bad_input : (asked : Asked) (run : Course) (e : End) (names : WavesNames) → IsEnding asked run.files run.files' e → asked ≡ Ok names
    → IsBadInput run.files run.files' names → status_number (status_of e) ≡ 2
ends_for_bad_input asked run (gives text) names is asks bad =
    absurd (bad_no_output run.files run.files' names text
    (of_names asked names (λ n. IsWavesOutput n run.files run.files' text) asks is) bad)
ends_for_bad_input asked run (complains (complaint.Shared (shared.Words why))) names is asks bad = absurd (not_both asked names why asks is.0)
ends_for_bad_input asked run (complains (complaint.Shared (shared.Refused f why))) names is asks bad = refl
ends_for_bad_input asked run (complains (complaint.Shared (shared.Fault f))) names is asks bad =
    absurd (bad_no_rise run.files run.files' names f (of_names asked names (λ n. IsRisenFile n run.files run.files' f) asks is) bad)
ends_for_bad_input asked run (complains (complaint.Shared (shared.Wrong found))) names is asks bad =
    absurd (bad_no_wrong run.files run.files' names found (of_names asked names (λ n. IsWrongJournal n run.files run.files' found) asks is) bad)
ends_for_bad_input asked run (complains (complaint.Shared shared.Store)) names is asks bad = absurd is
ends_for_bad_input asked run (complains (complaint.OpenRefused why)) names is asks bad = refl
ends_for_bad_input asked run (complains complaint.OpenFault) names is asks bad =
    absurd (bad_no_open_rise run.files run.files' names (of_names asked names (λ n. IsOpenRisen n run.files run.files') asks is) bad)

-- all files are safe, and the journal is read where one is named
record AreAllSafe (old new : FilesTold) (names : WavesNames) : Type 0 where
  layout : Layout
  opening : Opening
  listed : Option (List OpenOrder)
  before : IsSafeOpen old new names layout opening listed
  safe : IfSome names.journal (IsSafe old new)
  read : IfSome names.journal (λ name. (text : List ℕ) × IsRead old.holds name text)

-- then none is refused, and no count rose
safe_no_refusal : (old new : FilesTold) (names : WavesNames) (kind : Input) (why : Refusal) → AreAllSafe old new names
    → IsRefusedFile names old new kind why → ⊥
safe_no_refusal old new names kind why all (inl refused) =
    none_refused old new (tables_of names) (tables_said all.layout all.opening) kind why all.before.tables.tables.said refused
safe_no_refusal old new names kind why all (inr (is, at)) =
    let safe = at_name (IsSafe old new) names.journal at.name at.named all.safe in
    let (text, read) = at_name (λ name. (text : List ℕ) × IsRead old.holds name text) names.journal at.name at.named all.read in
    let (other, held, refused) = at.why in
    let same = one_text old.holds at.name safe.text text other safe.told read.held held in
    text_once text why (sym read.short ∙ ap text_in same ∙ refused)

safe_no_rise : (old new : FilesTold) (names : WavesNames) (kind : Input) → AreAllSafe old new names → IsRisenFile names old new kind → ⊥
safe_no_rise old new names kind all (inl rose) = none_rose (tables_of names) old new kind all.before.tables.stand rose
safe_no_rise old new names kind all (inr (is, at)) = no_rise old new names.journal at.name at.named all.safe at.why

safe_no_open_refusal : (old new : FilesTold) (names : WavesNames) (why : OpenRefusal) → AreAllSafe old new names → IsRefusedOpen names old new why → ⊥
safe_no_open_refusal old new names why all at =
    said all.listed (subst (λ (o : Option (List ℕ)). IsOpenFile old.holds all.opening.orders o all.listed) at.named all.before.open_file)
  where
    said : (listed : Option (List OpenOrder)) → IsOpenFile old.holds all.opening.orders (Some at.name) listed → ⊥
    said None none = none
    said (Some l) (text, held, accepted) =
        let safe = at_name (IsSafe old new) names.open_file at.name at.named all.before.safe in
        let (other, other_held, refused) = at.why in
        let same = one_text old.holds at.name safe.text text other safe.told held other_held in
        let opens = one_opening old new names all.layout at.layout all.opening at.opening all.before.tables at.tables in
        open_once l why (sym accepted ∙ ap₂ (λ (o : Opening) (t : List ℕ). open_in o.orders t) (sym opens) same ∙ refused)

safe_no_open_rise : (old new : FilesTold) (names : WavesNames) → AreAllSafe old new names → IsOpenRisen names old new → ⊥
safe_no_open_rise old new names all at = no_rise old new names.open_file at.name at.named all.before.safe at.why

-- a text isn't both the journal of a history and a wrong one
never_both : (opening : Opening) (text : List ℕ) (history : History) (fault : AuditFault) → IsJournalOfHistory opening text history
    → Shows opening text (Err fault) → ⊥
never_both opening text history fault is shows =
    let found : Audit = record { entries = length history.entries } in
    clash (shows_one opening text (Ok found) (Err fault) (counted opening text history (length history.entries) is refl) shows)
  where
    clash : {a : Audit} → ◌≡◌ {A = Result Audit AuditFault} (Ok a) (Err fault) → ⊥
    clash same = cc same

-- the day before isn't one whose journal is wrong
right_no_wrong : (old new : FilesTold) (names : WavesNames) (opening : Opening) (history : History) (name text : List ℕ) (fault : AuditFault)
    → names.journal ≡ Some name → IsSafe old new name → IsDayBefore old.holds opening names.journal history → IsHeld old.holds name text
    → Shows opening text (Err fault) → ⊥
right_no_wrong old new names opening history name text fault named safe day held shows =
    let (other, read, is) = subst (λ (o : Option (List ℕ)). IsDayBefore old.holds opening o history) named day in
    let same = one_text old.holds name safe.text other text safe.told read.held held in
    never_both opening text history fault (subst (λ (t : List ℕ). IsJournalOfHistory opening t history) same is) shows

false_safe : (old new : FilesTold) (names : WavesNames) → IsFalseJournal old new names → AreAllSafe old new names
false_safe old new names bad = record {
  layout = bad.layout;
  opening = bad.opening;
  listed = bad.listed;
  before = bad.before;
  safe = for_name (IsSafe old new) names.journal bad.name bad.named bad.safe;
  read = for_name (λ name. (text : List ℕ) × IsRead old.holds name text) names.journal bad.name bad.named (bad.why.0, bad.why.1);
}

false_no_output : (old new : FilesTold) (names : WavesNames) (text : List ℕ) → IsWavesOutput names old new text → IsFalseJournal old new names → ⊥
false_no_output old new names text out bad =
    let opens = one_opening old new names bad.layout out.layout bad.opening out.opening bad.before.tables out.tables in
    right_no_wrong old new names bad.opening out.history bad.name bad.why.0 bad.why.2 bad.named bad.safe
    (subst (λ (o : Opening). IsDayBefore old.holds o names.journal out.history) opens out.before) bad.why.1.held bad.why.3

-- with a journal that isn't right
pub ends_for_false : (asked : Asked) (run : Course) (e : End) (names : WavesNames) → IsEnding asked run.files run.files' e → asked ≡ Ok names
    → IsFalseJournal run.files run.files' names → status_number (status_of e) ≡ 6
ends_for_false asked run (gives text) names is asks bad =
    absurd (false_no_output run.files run.files' names text
    (of_names asked names (λ n. IsWavesOutput n run.files run.files' text) asks is) bad)
ends_for_false asked run (complains (complaint.Shared (shared.Words why))) names is asks bad = absurd (not_both asked names why asks is.0)
ends_for_false asked run (complains (complaint.Shared (shared.Refused f why))) names is asks bad =
    absurd (safe_no_refusal run.files run.files' names f why (false_safe run.files run.files' names bad)
    (of_names asked names (λ n. IsRefusedFile n run.files run.files' f why) asks is))
ends_for_false asked run (complains (complaint.Shared (shared.Fault f))) names is asks bad =
    absurd (safe_no_rise run.files run.files' names f (false_safe run.files run.files' names bad)
    (of_names asked names (λ n. IsRisenFile n run.files run.files' f) asks is))
ends_for_false asked run (complains (complaint.Shared (shared.Wrong found))) names is asks bad = refl
ends_for_false asked run (complains (complaint.Shared shared.Store)) names is asks bad = absurd is
ends_for_false asked run (complains (complaint.OpenRefused why)) names is asks bad =
    absurd (safe_no_open_refusal run.files run.files' names why (false_safe run.files run.files' names bad)
    (of_names asked names (λ n. IsRefusedOpen n run.files run.files' why) asks is))
ends_for_false asked run (complains complaint.OpenFault) names is asks bad =
    absurd (safe_no_open_rise run.files run.files' names (false_safe run.files run.files' names bad)
    (of_names asked names (λ n. IsOpenRisen n run.files run.files') asks is))

good_safe : (old new : FilesTold) (names : WavesNames) → AreGoodInputs old new names → AreAllSafe old new names
good_safe old new names good = record {
  layout = good.layout;
  opening = good.opening;
  listed = good.listed;
  before = good.before;
  safe = good.safe;
  read = read names.journal good.day;
}
  where
    read : (given : Option (List ℕ)) → IsDayBefore old.holds good.opening given good.history
        → IfSome given (λ name. (text : List ℕ) × IsRead old.holds name text)
    read None day = tt
    read (Some name) (text, is, day) = (text, is)

good_no_wrong : (old new : FilesTold) (names : WavesNames) (found : Finding) → AreGoodInputs old new names → IsWrongJournal names old new found → ⊥
good_no_wrong old new names found good (fault, is, at) =
    let opens = one_opening old new names good.layout at.layout good.opening at.opening good.before.tables at.tables in
    let (text, read, shows) = at.why in
    right_no_wrong old new names good.opening good.history at.name text fault at.named (at_name (IsSafe old new) names.journal at.name at.named good.safe)
    good.day read.held (subst (λ (o : Opening). Shows o text (Err fault)) opens shows)

-- and else
pub ends_for_good : (asked : Asked) (run : Course) (e : End) (names : WavesNames) → IsEnding asked run.files run.files' e → asked ≡ Ok names
    → AreGoodInputs run.files run.files' names → status_number (status_of e) ≡ 0
ends_for_good asked run (gives text) names is asks good = refl
ends_for_good asked run (complains (complaint.Shared (shared.Words why))) names is asks good = absurd (not_both asked names why asks is.0)
ends_for_good asked run (complains (complaint.Shared (shared.Refused f why))) names is asks good =
    absurd (safe_no_refusal run.files run.files' names f why (good_safe run.files run.files' names good)
    (of_names asked names (λ n. IsRefusedFile n run.files run.files' f why) asks is))
ends_for_good asked run (complains (complaint.Shared (shared.Fault f))) names is asks good =
    absurd (safe_no_rise run.files run.files' names f (good_safe run.files run.files' names good)
    (of_names asked names (λ n. IsRisenFile n run.files run.files' f) asks is))
ends_for_good asked run (complains (complaint.Shared (shared.Wrong found))) names is asks good =
    absurd (good_no_wrong run.files run.files' names found good
    (of_names asked names (λ n. IsWrongJournal n run.files run.files' found) asks is))
ends_for_good asked run (complains (complaint.Shared shared.Store)) names is asks good = absurd is
ends_for_good asked run (complains (complaint.OpenRefused why)) names is asks good =
    absurd (safe_no_open_refusal run.files run.files' names why (good_safe run.files run.files' names good)
    (of_names asked names (λ n. IsRefusedOpen n run.files run.files' why) asks is))
ends_for_good asked run (complains complaint.OpenFault) names is asks good =
    absurd (safe_no_open_rise run.files run.files' names (good_safe run.files run.files' names good)
    (of_names asked names (λ n. IsOpenRisen n run.files run.files') asks is))
