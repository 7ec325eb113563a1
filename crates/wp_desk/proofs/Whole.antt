-- The parts of the desks are the whole of what was done.
use Rattle.std.proofs.Common.{◌≡◌, ◌∙◌, refl, sym, ap, subst, ℕ, zero, suc, ◌+◌, ◌<◌, ◌≤◌, ◌⊎◌, inl, inr, Bool, true, false, List, [], ◌∷◌, ◌++◌, length, map}
use Rattle.std.proofs.Common.{append_assoc, arith}
use Rattle.std.proofs.Common.{append-nil, cond, eq-eqb, ne_eqb}
use Rattle.std.specs.Prelude.{◌==◌, if◌then◌else◌, reverse, IfSome, slice_get}
use Rattle.std.specs.List.{All, flat_map}
use Rattle.std.specs.List.Sorted.{IsPermutation}
use Rattle.std.proofs.lemmas.Bool.{cases_eq, cases_lt, cond-false, cond-true}
use Rattle.std.proofs.lemmas.List.{reverse-append}
use Rattle.std.proofs.lemmas.List.Elements.{All-cons, All-head, All-nil, All-tail}
use Rattle.std.proofs.lemmas.List.Sorted.{IsPermutation-append, IsPermutation-append_comm, IsPermutation-append_left, IsPermutation-append_right}
use Rattle.std.proofs.lemmas.List.Sorted.{IsPermutation-refl, IsPermutation-trans}
use Rattle.std.proofs.lemmas.Option.{slice_get_within}
use Rattle.wp_desk.specs.GoingOn.{refills_after, released_after, told_after}
use Rattle.wp_desk.specs.Parts.{HasAsked, refills_by, told_from, told_to, waves_by}
use Rattle.wp_machine.specs.Outcome.{outcome_of, outcomes_from, refill_in, released_in}
use Rattle.wp_machine.specs.declared.outcome.Outcome.{Outcome}
use Rattle.wp_model.proofs.Elements.{at_some, if_some}
use Rattle.wp_model.specs.History.{History, Script, part_of, script_of, state_after}
use Rattle.wp_model.specs.Opening.{Opening}
use Rattle.wp_model.specs.State.{State}
use Rattle.wp_model.specs.Step.{step}
use Rattle.wp_model.specs.Tables.{AreReadScripts}
use Rattle.wp_model.specs.declared.command.Command.{Command}
use Rattle.wp_model.specs.declared.entry.Entry.{Entry}
use Rattle.wp_turn.proofs.Sums.{only-other, only-same, total-append, up_to-beyond}
use Rattle.wp_turn.specs.Calls.{IsAmong, calls_of, entries_of}
use Rattle.wp_turn.specs.Weights.{only, total, up_to}

-- the entries of a desk's calls are under its number
abbrev IsNamed : ℕ → List (ℕ × Entry) → Type 0
IsNamed desk calls = All (λ entry. entry.desk ≡ desk) (calls_of desk calls)

-- what holds of all that a test keeps holds of what comes after the first
past_test : (P : Entry → Type 0) (mine : Bool) (entry : Entry) (entries : List Entry) → All P (cond mine (entry ∷ entries) entries) → All P entries
past_test P true entry entries all = All-tail P entry entries all
past_test P false entry entries all = all

-- and where the test is passed, of the first
at_test : (P : Entry → Type 0) (mine : Bool) (entry : Entry) (entries : List Entry) → mine ≡ true → All P (cond mine (entry ∷ entries) entries) → P entry
at_test P true entry entries is all = All-head P entry entries all
at_test P false entry entries is all = absurd (cc is)

-- where two tests are one, what they keep goes together
kept_together : (named mine : Bool) (entry : Entry) (commands : List Command) (entries : List Entry) → named ≡ mine
    → commands ≡ map (λ (entry : Entry). entry.command) entries
    → (if named then entry.command ∷ commands else commands) ≡ map (λ (entry : Entry). entry.command) (cond mine (entry ∷ entries) entries)
kept_together true true entry commands entries same others = ap (λ cs. entry.command ∷ cs) others
kept_together true false entry commands entries same others = absurd (cc same)
kept_together false true entry commands entries same others = absurd (cc same)
kept_together false false entry commands entries same others = others

-- the part of a desk in the entries is what its calls ask
part_by_calls : (calls : List (ℕ × Entry)) → ((desk : ℕ) → IsNamed desk calls) → (desk : ℕ)
    → part_of desk (entries_of calls) ≡ map (λ (entry : Entry). entry.command) (calls_of desk calls)
part_by_calls [] named desk = refl
part_by_calls (call ∷ calls) named desk =
    let first : call.1.desk ≡ call.0 =
    at_test (λ entry. entry.desk ≡ call.0) (call.0 == call.0) call.1 (calls_of call.0 calls) (eq-eqb call.0 call.0 refl) (named call.0) in
    let others : (other : ℕ) → IsNamed other calls =
    λ other. past_test (λ entry. entry.desk ≡ other) (call.0 == other) call.1 (calls_of other calls) (named other) in
    kept_together (call.1.desk == desk) (call.0 == desk) call.1 _ (calls_of desk calls) (ap (λ n. n == desk) first) (part_by_calls calls others desk)

-- what holds of the desks of a list, and of all others, holds of each desk
each_desk : (P : ℕ → Type 0) (desks : List ℕ) → ((desk : ℕ) → IsAmong desk desks → P desk) → ((desk : ℕ) → ¬ IsAmong desk desks → P desk) → (desk : ℕ) → P desk
each_desk P desks among away desk = elim (cases_lt 0 (total (only desk) desks)) [
  | inl is ↦ among desk is
  | inr none ↦ away desk (λ is. omega (arith, is, none))
]

-- the part of each desk is its script
pub parts_are : (scripts : List Script) (desks : List ℕ) (calls : List (ℕ × Entry))
    → ((desk : ℕ) → IsAmong desk desks → HasAsked calls desk (script_of scripts desk))
    → ((desk : ℕ) → ¬ IsAmong desk desks → calls_of desk calls ≡ []) → ((desk : ℕ) → ¬ IsAmong desk desks → script_of scripts desk ≡ [])
    → (desk : ℕ) → part_of desk (entries_of calls) ≡ script_of scripts desk
parts_are scripts desks calls asked silent unasked desk =
    let named : (desk : ℕ) → IsNamed desk calls = each_desk (λ desk. IsNamed desk calls) desks (λ desk among. (asked desk among).named)
    (λ desk away. subst (λ (entries : List Entry). All (λ entry. entry.desk ≡ desk) entries) (sym (silent desk away)) (All-nil (λ entry. entry.desk ≡ desk))) in
    part_by_calls calls named desk
    ∙ each_desk (λ desk. map (λ (entry : Entry). entry.command) (calls_of desk calls) ≡ script_of scripts desk) desks
    (λ desk among. (asked desk among).commands_are)
    (λ desk away. ap (map (λ (entry : Entry). entry.command)) (silent desk away) ∙ sym (unasked desk away)) desk

module _ {A : Type 0} where
  -- a list is itself in the same order
  same_order : (xs ys : List A) → xs ≡ ys → IsPermutation xs ys
  same_order xs ys same = subst (λ (zs : List A). IsPermutation xs zs) same (IsPermutation-refl xs)

  -- of four lists in a row the two in the middle change places
  middle_changed : (a b c d : List A) → IsPermutation ((a ++ b) ++ (c ++ d)) ((a ++ c) ++ (b ++ d))
  middle_changed a b c d =
      let left : (a ++ b) ++ (c ++ d) ≡ a ++ ((b ++ c) ++ d) = append_assoc a b (c ++ d) ∙ ap (λ l. a ++ l) (sym (append_assoc b c d)) in
      let right : a ++ ((c ++ b) ++ d) ≡ (a ++ c) ++ (b ++ d) = ap (λ l. a ++ l) (append_assoc c b d) ∙ sym (append_assoc a c (b ++ d)) in
      IsPermutation-trans ((a ++ b) ++ (c ++ d)) (a ++ ((b ++ c) ++ d)) ((a ++ c) ++ (b ++ d)) (same_order _ _ left)
      (IsPermutation-trans (a ++ ((b ++ c) ++ d)) (a ++ ((c ++ b) ++ d)) ((a ++ c) ++ (b ++ d))
      (IsPermutation-append_right a ((b ++ c) ++ d) ((c ++ b) ++ d) (IsPermutation-append_left d (b ++ c) (c ++ b) (IsPermutation-append_comm b c)))
      (same_order _ _ right))

  -- what is gathered in two parts for each is gathered part by part
  gathered_apart : (both first second : ℕ → List A) → ((n : ℕ) → both n ≡ first n ++ second n) → (ns : List ℕ)
      → IsPermutation (flat_map both ns) (flat_map first ns ++ flat_map second ns)
  gathered_apart both first second parts [] = IsPermutation-refl []
  gathered_apart both first second parts (n ∷ ns) =
      let firsts = flat_map first ns in
      let seconds = flat_map second ns in
      IsPermutation-trans (both n ++ flat_map both ns) ((first n ++ second n) ++ (firsts ++ seconds)) ((first n ++ firsts) ++ (second n ++ seconds))
      (IsPermutation-append (both n) (first n ++ second n) (flat_map both ns) (firsts ++ seconds) (same_order _ _ (parts n))
      (gathered_apart both first second parts ns)) (middle_changed (first n) (second n) firsts seconds)

  -- what only one number has
  abbrev had_by : ℕ → List A → ℕ → List A
  had_by owner xs n = if owner == n then xs else []

  -- where that number isn't among others, they have nothing
  had_by_none : (owner : ℕ) (xs : List A) (ns : List ℕ) → total (only owner) ns ≡ 0 → flat_map (had_by owner xs) ns ≡ []
  had_by_none owner xs [] none = refl
  had_by_none owner xs (n ∷ ns) none = elim (cases_eq n owner) [
    | inl same ↦ absurd (omega (arith, none, ap (only owner) same, only-same owner))
    | inr other ↦ ap (λ l. l ++ flat_map (had_by owner xs) ns) (cond-false (owner == n) xs [] (ne_eqb owner n (λ e. other (sym e))))
        ∙ had_by_none owner xs ns (omega (arith, none))
  ]

  -- where it is among them once, they have that
  had_by_one : (owner : ℕ) (xs : List A) (ns : List ℕ) → total (only owner) ns ≡ 1 → flat_map (had_by owner xs) ns ≡ xs
  had_by_one owner xs [] once = absurd (omega (arith, once))
  had_by_one owner xs (n ∷ ns) once = elim (cases_eq n owner) [
    | inl same ↦ ap (λ l. l ++ flat_map (had_by owner xs) ns) (cond-true (owner == n) xs [] (eq-eqb owner n (sym same)))
        ∙ (ap (λ l. xs ++ l) (had_by_none owner xs ns (omega (arith, once, ap (only owner) same, only-same owner))) ∙ append-nil xs)
    | inr other ↦ ap (λ l. l ++ flat_map (had_by owner xs) ns) (cond-false (owner == n) xs [] (ne_eqb owner n (λ e. other (sym e))))
        ∙ had_by_one owner xs ns (omega (arith, once, only-other owner n other))
  ]

  -- what a step tells goes to the desk that called
  first_told : (g : Outcome → List A) (mine : Bool) (told : Outcome) (others : List Outcome)
      → flat_map g (if mine then told ∷ others else others) ≡ (if mine then g told else []) ++ flat_map g others
  first_told g true told others = refl
  first_told g false told others = refl

  -- what all desks are told is what all steps tell, from a state on
  all_told_from : (g : Outcome → List A) (opening : Opening) (number : ℕ) (state : State) (calls : List (ℕ × Entry)) (desks : List ℕ)
      → All (λ call. total (only call.0) desks ≡ 1) calls
      → IsPermutation (flat_map (λ desk. flat_map g (told_from desk opening number state calls)) desks)
      (flat_map g (outcomes_from opening number state (entries_of calls)))
  all_told_from g opening number state [] desks once = same_order _ _ (nothing desks)
    where
      nothing : (ns : List ℕ) → flat_map {A = A} (λ n. []) ns ≡ []
      nothing [] = refl
      nothing (n ∷ ns) = nothing ns
  all_told_from g opening number state (call ∷ calls) desks once =
      let told = outcome_of number state call.1.command (step opening state call.1.command) in
      let after = (step opening state call.1.command).state in
      let others : ℕ → List A = λ desk. flat_map g (told_from desk opening (number + 1) after calls) in
      let all : ℕ → List A = λ desk. flat_map g (told_from desk opening number state (call ∷ calls)) in
      let apart : IsPermutation (flat_map all desks) (flat_map (had_by call.0 (g told)) desks ++ flat_map others desks) =
      gathered_apart all (had_by call.0 (g told)) others
      (λ desk. first_told g (call.0 == desk) told (told_from desk opening (number + 1) after calls)) desks in
      let own : flat_map (had_by call.0 (g told)) desks ≡ g told =
      had_by_one call.0 (g told) desks (All-head (λ call. total (only call.0) desks ≡ 1) call calls once) in
      let rest = all_told_from g opening (number + 1) after calls desks (All-tail (λ call. total (only call.0) desks ≡ 1) call calls once) in
      IsPermutation-trans _ _ _ apart (IsPermutation-append _ (g told) _ _ (same_order _ _ own) rest)

  -- what all desks are told is what all steps tell
  pub all_told : (g : Outcome → List A) (start : History) (calls : List (ℕ × Entry)) (desks : List ℕ)
      → All (λ call. total (only call.0) desks ≡ 1) calls
      → IsPermutation (flat_map (λ desk. flat_map g (told_to desk start calls)) desks) (flat_map g (told_after start (entries_of calls)))
  all_told g start calls desks once = all_told_from g start.opening (length start.entries) (state_after start) calls desks once

-- the waves of all desks are those that their entries sent out
pub all_waves : (start : History) (calls : List (ℕ × Entry)) (desks : List ℕ) → All (λ call. total (only call.0) desks ≡ 1) calls
    → IsPermutation (flat_map (waves_by start calls) desks) (released_after start (entries_of calls))
all_waves start calls desks once = all_told released_in start calls desks once

-- the refills of all desks are those of their entries
pub all_refills : (start : History) (calls : List (ℕ × Entry)) (desks : List ℕ) → All (λ call. total (only call.0) desks ≡ 1) calls
    → IsPermutation (flat_map (refills_by start calls) desks) (refills_after start (entries_of calls))
all_refills start calls desks once = all_told refill_in start calls desks once

-- where no script is a desk's, it has nothing to ask for
script_of_none : (scripts : List Script) (desk : ℕ) → ((i : ℕ) → IfSome (slice_get scripts i) (λ script. ¬ (script.desk ≡ desk)))
    → script_of scripts desk ≡ []
script_of_none [] desk others = refl
script_of_none (script ∷ scripts) desk others =
    cond-false (script.desk == desk) script.commands (script_of scripts desk) (ne_eqb script.desk desk (others 0))
    ∙ script_of_none scripts desk (λ i. others (suc i))

-- a desk whose number is none of the scripts' has nothing to ask for
pub scripts_of_others : (scripts : List Script) → AreReadScripts scripts → (desk : ℕ) → (desk ≡ 0) ⊎ (length scripts < desk) → script_of scripts desk ≡ []
scripts_of_others scripts read desk beyond = script_of_none scripts desk (λ i. if_some (slice_get scripts i) (λ script. ¬ (script.desk ≡ desk))
    (λ script found own.
    let numbered : script.desk ≡ i + 1 = at_some (slice_get scripts i) (λ script. script.desk ≡ i + 1) script found (read.numbered i) in
    let within : i < length scripts = slice_get_within scripts i script found in
    elim beyond [
      | inl none ↦ absurd (omega (arith, own, numbered, none))
      | inr after ↦ absurd (omega (arith, own, numbered, after, within))
    ]))

-- the numbers from 1 on
abbrev pub count_up : ℕ → List ℕ
count_up zero = []
count_up (suc n) = count_up n ++ suc n ∷ []

-- the weight of a list doesn't depend on its order
total-reverse : (f : ℕ → ℕ) (ns : List ℕ) → total f (reverse ns) ≡ total f ns
total-reverse f [] = refl
total-reverse f (n ∷ ns) = omega (arith, ap (total f) (reverse-append (n ∷ []) ns), total-append f (reverse ns) (n ∷ []), total-reverse f ns)

-- the numbers from 1 on have their weight
total-count_up : (f : ℕ → ℕ) (n : ℕ) → total f (count_up n) ≡ up_to f n
total-count_up f zero = refl
total-count_up f (suc n) = omega (arith, total-append f (count_up n) (suc n ∷ []), total-count_up f n)

counted_up : (n k : ℕ) → total (only k) (reverse (count_up n)) ≡ up_to (only k) n
counted_up n k = total-reverse (only k) (count_up n) ∙ total-count_up (only k) n

up_to-zero : (n : ℕ) → up_to (only 0) n ≡ 0
up_to-zero zero = refl
up_to-zero (suc n) = omega (arith, up_to-zero n, only-other 0 (suc n) (λ e. omega (arith, e)))

up_to-within : (n k : ℕ) → 1 ≤ k → k ≤ n → up_to (only k) n ≡ 1
up_to-within zero k first last = absurd (omega (arith, first, last))
up_to-within (suc n) k first last = elim (cases_eq (suc n) k) [
  | inl same ↦ omega (arith, up_to-beyond k n (omega (arith, same)), ap (only k) same, only-same k)
  | inr other ↦ omega (arith, up_to-within n k first (omega (arith, last, other)), only-other k (suc n) other)
]

-- each number from 1 to the last stands once among those counted
pub once_each : (n k : ℕ) → 1 ≤ k → k ≤ n → total (only k) (reverse (count_up n)) ≡ 1
once_each n k first last = counted_up n k ∙ up_to-within n k first last

-- and no other number does
pub none_else : (n k : ℕ) → (k ≡ 0) ⊎ (n < k) → total (only k) (reverse (count_up n)) ≡ 0
none_else n k (inl none) = counted_up n k ∙ (ap (λ m. up_to (only m) n) none ∙ up_to-zero n)
none_else n k (inr beyond) = counted_up n k ∙ up_to-beyond k n beyond

-- a test that keeps nothing keeps nothing of what comes after the first
nothing_past : (mine : Bool) (entry : Entry) (entries : List Entry) → cond mine (entry ∷ entries) entries ≡ [] → entries ≡ []
nothing_past true entry entries none = absurd (cc none)
nothing_past false entry entries none = none

-- and it isn't passed by the first
nothing_at : (mine : Bool) (entry : Entry) (entries : List Entry) → mine ≡ true → ¬ (cond mine (entry ∷ entries) entries ≡ [])
nothing_at true entry entries is none = absurd (cc none)
nothing_at false entry entries is none = absurd (cc is)

-- where each desk stands at most once in a list, and no other desk calls, the desk of each call stands there once
pub tagged_once : (desks : List ℕ) (calls : List (ℕ × Entry)) → ((k : ℕ) → total (only k) desks ≤ 1)
    → ((k : ℕ) → ¬ IsAmong k desks → calls_of k calls ≡ []) → All (λ call. total (only call.0) desks ≡ 1) calls
tagged_once desks [] most silent = All-nil (λ call. total (only call.0) desks ≡ 1)
tagged_once desks (call ∷ calls) most silent = All-cons (λ call. total (only call.0) desks ≡ 1) call calls
    (elim (cases_lt 0 (total (only call.0) desks)) [
      | inl among ↦ omega (arith, among, most call.0)
      | inr none ↦ absurd (nothing_at (call.0 == call.0) call.1 (calls_of call.0 calls) (eq-eqb call.0 call.0 refl)
          (silent call.0 (λ among. omega (arith, among, none))))
    ]) (tagged_once desks calls most (λ k away. nothing_past (call.0 == k) call.1 (calls_of k calls) (silent k away)))
