-- What desks ask is answered one after the other.
use Rattle.std.proofs.Common.{◌≡◌, ◌∙◌, refl, sym, ap, ℕ, zero, suc, ◌+◌, List, [], ◌∷◌, ◌++◌, length, map, take, Some, slice_get, append_assoc, Result, Ok}
use Rattle.std.proofs.Common.{Err, IfOk, subst, arith}
use Rattle.std.proofs.lemmas.List.{append-nil, map-append}
use Rattle.wp_model.proofs.Histories.{answered_is_legal}
use Rattle.wp_model.proofs.Served.{each_state_is_sound}
use Rattle.wp_model.specs.History.{History, IsLegal, answered, next_entry, opened}
use Rattle.wp_model.specs.Opening.{Opening}
use Rattle.wp_model.specs.Sound.{EachStateIsSound}
use Rattle.wp_model.specs.Tables.{IsReadOpening}
use Rattle.wp_model.specs.declared.entry.Entry.{Entry}
use Rattle.wp_model.specs.declared.memory.Memory.{Memory}
use Rattle.wp_machine.specs.Machine.{asked_all, asking_of}
use Rattle.wp_floor.proofs.Floors.{is_opening}
use Rattle.wp_machine.specs.declared.asking.Asking.{Asking}

one_more : (i : ℕ) → suc i ≡ i + 1
one_more i = omega arith

next_of : (history : History) (askings : List Asking) (i : ℕ) (asking : Asking) → slice_get askings i ≡ Some asking
    → asked_all history (take (suc i) askings) ≡ answered (asked_all history (take i askings)) asking.desk asking.command
next_of history [] i asking is = absurd (cc is)
next_of history (first ∷ askings) zero asking is = ap (λ (asking : Asking). answered history asking.desk asking.command) (cc is)
next_of history (first ∷ askings) (suc i) asking is = next_of (answered history first.desk first.command) askings i asking is

-- one more of the list
pub asked_all-next : (history : History) (askings : List Asking) (i : ℕ) (asking : Asking) → slice_get askings i ≡ Some asking
    → asked_all history (take (i + 1) askings) ≡ answered (asked_all history (take i askings)) asking.desk asking.command
asked_all-next history askings i asking is = ap (λ n. asked_all history (take n askings)) (sym (one_more i)) ∙ next_of history askings i asking is

-- the entries are of what was asked
pub all_asked : (history : History) (askings : List Asking) → map asking_of (asked_all history askings).entries ≡ map asking_of history.entries ++ askings
all_asked history [] = sym (append-nil (map asking_of history.entries))
all_asked history (asking ∷ askings) =
    all_asked (answered history asking.desk asking.command) askings
    ∙ (ap (λ asked. asked ++ askings) (map-append asking_of history.entries (next_entry history asking.desk asking.command ∷ []))
    ∙ append_assoc (map asking_of history.entries) (asking ∷ []) askings)

-- there is an entry for each
pub as_many_entries : (history : History) (askings : List Asking) → length (asked_all history askings).entries ≡ length history.entries + length askings
as_many_entries history [] = omega arith
as_many_entries history (asking ∷ askings) = omega (
  arith,
  as_many_entries (answered history asking.desk asking.command) askings,
  pushed history.entries (next_entry history asking.desk asking.command),
)
  where
    pushed : (entries : List Entry) (entry : Entry) → length (entries ++ entry ∷ []) ≡ length entries + 1
    pushed [] entry = refl
    pushed (first ∷ entries) entry = omega (arith, pushed entries entry)

-- a history that goes on legally is legal
pub all_legal : (history : History) (askings : List Asking) → IsLegal history → IsLegal (asked_all history askings)
all_legal history [] legal = legal
all_legal history (asking ∷ askings) legal = all_legal (answered history asking.desk asking.command) askings
    (answered_is_legal history asking.desk asking.command legal)

-- the opening stays
pub opening_stays : (history : History) (askings : List Asking) → (asked_all history askings).opening ≡ history.opening
opening_stays history [] = refl
opening_stays history (asking ∷ askings) = opening_stays (answered history asking.desk asking.command) askings

-- what is true of entries that a call may give
told : (entries : Result (List Entry) Memory) (right : List Entry) (P : List Entry → Type 0) → P right → IfOk entries (λ es. es ≡ right) → IfOk entries P
told (Ok es) right P is same = subst P (sym same) is
told (Err why) right P is same = tt

-- the entries of what was asked
pub asked_told : (opening : Opening) (askings : List Asking) (entries : Result (List Entry) Memory)
    → IfOk entries (λ es. es ≡ (asked_all (opened opening) askings).entries)
    → IfOk entries (λ es. map asking_of es ≡ askings)
asked_told opening askings entries same = told entries (asked_all (opened opening) askings).entries (λ es. map asking_of es ≡ askings)
    (all_asked (opened opening) askings) same

-- they make a legal history
pub legal_told : (opening : Opening) (askings : List Asking) (entries : Result (List Entry) Memory)
    → IfOk entries (λ es. es ≡ (asked_all (opened opening) askings).entries)
    → IfOk entries (λ es. IsLegal (record { opening = opening; entries = es }))
legal_told opening askings entries same =
    let history = asked_all (opened opening) askings in
    told entries history.entries (λ es. IsLegal (record { opening = opening; entries = es }))
    (subst (λ (o : Opening). IsLegal (record { opening = o; entries = history.entries })) (opening_stays (opened opening) askings)
    (all_legal (opened opening) askings tt)) same

-- every state of which is sound
pub sound_told : (opening : Opening) (askings : List Asking) (entries : Result (List Entry) Memory) → IsReadOpening opening
    → IfOk entries (λ es. es ≡ (asked_all (opened opening) askings).entries)
    → IfOk entries (λ es. EachStateIsSound (record { opening = opening; entries = es }))
sound_told opening askings entries read same =
    told entries (asked_all (opened opening) askings).entries (λ es. EachStateIsSound (record { opening = opening; entries = es }))
    (each_state_is_sound (record { opening = opening; entries = (asked_all (opened opening) askings).entries }) (is_opening opening read)) same
