-- What is told goes by rising numbers, and what rises is found again by a sort.
use Rattle.std.proofs.Common.{◌≡◌, ◌∙◌, refl, sym, ap, subst, ℕ, zero, suc, ◌+◌, ◌<◌, ◌≤◌, inl, inr, List, [], ◌∷◌, ◌++◌, length, map, arith, Option, Some}
use Rattle.std.proofs.Common.{None}
use Rattle.std.specs.Prelude.{⊤}
use Rattle.std.specs.List.{All, Contains, flat_map, sum_by}
use Rattle.std.specs.List.Sorted.{IsNonDecreasingBy, IsPermutation}
use Rattle.std.specs.Option.{option_map_or}
use Rattle.std.proofs.lemmas.Bool.{cases_order}
use Rattle.std.proofs.lemmas.List.{get_or-map, length-map}
use Rattle.std.proofs.lemmas.List.Elements.{All-cons, All-contains_itself, All-head, All-nil, All-tail, All-weaker}
use Rattle.std.proofs.lemmas.List.Sorted.{All-permutation, sum_by-IsPermutation}
use Rattle.std.proofs.lemmas.List.Sums.{sum_by-cons}
use Rattle.wp_desk.specs.GoingOn.{refills_after, released_after}
use Rattle.wp_machine.specs.Outcome.{missing_outcome, outcome_of, outcomes_from, refill_in, release_outcome, released_in}
use Rattle.wp_machine.specs.declared.outcome.Outcome.{Outcome}
use Rattle.wp_machine.specs.declared.outcome.Outcome.TheVariants as outcome
use Rattle.wp_machine.specs.declared.outcome.Refill.{Refill}
use Rattle.wp_machine.specs.declared.outcome.WaveHolds.{WaveHolds}
use Rattle.wp_model.specs.History.{History, state_after}
use Rattle.wp_model.specs.Opening.{Opening}
use Rattle.wp_model.specs.State.{State, Wave}
use Rattle.wp_model.specs.Step.{Stepped, step, wave_from}
use Rattle.wp_model.specs.declared.command.Command.{Command}
use Rattle.wp_model.specs.declared.command.Command.TheVariants as command
use Rattle.wp_model.specs.declared.entry.Entry.{Entry}
use Rattle.wp_model.specs.declared.reply.Reply.{Reply}
use Rattle.wp_model.specs.declared.reply.Reply.TheVariants as reply
use Rattle.wp_turn.proofs.Sums.{only-other, only-same}
use Rattle.wp_turn.specs.Weights.{only, total}

module _ {X : Type 0} (n : X → ℕ) where
  -- the numbers of a list rise: each is below all after it
  abbrev pub Rise : List X → Type 0
  Rise [] = ⊤
  Rise (x ∷ xs) = All (λ y. n x < n y) xs × Rise xs

  -- each number of a list has as many items in another
  abbrev SameNumbers : List X → List X → Type 0
  SameNumbers xs ys = (m : ℕ) → total (λ x. only m (n x)) xs ≡ total (λ x. only m (n x)) ys

  -- a number below all of a list isn't among theirs
  none_below : (m : ℕ) (xs : List X) → All (λ x. m < n x) xs → total (λ x. only m (n x)) xs ≡ 0
  none_below m [] above = refl
  none_below m (x ∷ xs) above =
      let first : m < n x = All-head (λ x. m < n x) x xs above in
      let other : only m (n x) ≡ 0 = only-other m (n x) (λ e. omega (arith, first, e)) in
      omega (arith, other, none_below m xs (All-tail (λ x. m < n x) x xs above))

  -- the first of a list is among its numbers
  first_counts : (x : X) (xs : List X) → 1 ≤ total (λ y. only (n x) (n y)) (x ∷ xs)
  first_counts x xs = omega (arith, only-same (n x))

  -- the first numbers of a rising list and of a list in order are the same, where both have the same numbers
  first_same : (x y : X) (xs ys : List X) → Rise (x ∷ xs) → SameNumbers (x ∷ xs) (y ∷ ys) → IsNonDecreasingBy n (y ∷ ys) → n y ≡ n x
  first_same x y xs ys rise same ordered = elim (cases_order (n y) (n x)) [
    | inl is ↦ is
    | inr (inl below) ↦
        let above : All (λ z. n y < n z) (x ∷ xs) = All-cons (λ z. n y < n z) x xs below
        (All-weaker (λ z. n x < n z) (λ z. n y < n z) (λ z more. omega (arith, more, below)) xs rise.0) in
        absurd (omega (arith, same (n y), none_below (n y) (x ∷ xs) above, first_counts y ys))
    | inr (inr below) ↦
        let above : All (λ z. n x < n z) (y ∷ ys) = λ k d inside. omega (arith, below, ordered 0 k d (omega arith) inside) in
        absurd (omega (arith, same (n x), none_below (n x) (y ∷ ys) above, first_counts x xs))
  ]

  -- a list in order, each item of which is that of the rising list with its number, is the rising list
  risen_again : (xs ys : List X) → Rise xs → SameNumbers xs ys → All (λ y. All (λ x. n y ≡ n x → y ≡ x) xs) ys → IsNonDecreasingBy n ys → ys ≡ xs
  risen_again [] [] rise same known ordered = refl
  risen_again [] (y ∷ ys) rise same known ordered = absurd (omega (arith, same (n y), first_counts y ys))
  risen_again (x ∷ xs) [] rise same known ordered = absurd (omega (arith, same (n x), first_counts x xs))
  risen_again (x ∷ xs) (y ∷ ys) rise same known ordered =
      let number : n y ≡ n x = first_same x y xs ys rise same ordered in
      let first : y ≡ x = All-head (λ x. n y ≡ n x → y ≡ x) x xs (All-head (λ y. All (λ x. n y ≡ n x → y ≡ x) (x ∷ xs)) y ys known) number in
      let others : ys ≡ xs = risen_again xs ys rise.1 (λ m. omega (arith, same m, ap (only m) number))
      (All-weaker (λ y. All (λ x. n y ≡ n x → y ≡ x) (x ∷ xs)) (λ y. All (λ x. n y ≡ n x → y ≡ x) xs)
      (λ y all. All-tail (λ x. n y ≡ n x → y ≡ x) x xs all) ys (All-tail (λ y. All (λ x. n y ≡ n x → y ≡ x) (x ∷ xs)) y ys known))
      (λ i j d before inside. ordered (suc i) (suc j) d (omega (arith, before)) (omega (arith, inside))) in
      ap (λ z. z ∷ ys) first ∙ ap (λ l. x ∷ l) others

  -- an item of a rising list is the one with its number
  one_of_number : (xs : List X) (y : X) → Rise xs → Contains xs y → All (λ x. n y ≡ n x → y ≡ x) xs
  one_of_number [] y rise has = absurd (omega (arith, has.1))
  one_of_number (x ∷ xs) y rise (zero, inside, is) =
      All-cons (λ z. n y ≡ n z → y ≡ z) x xs (λ number. sym is)
      (All-weaker (λ z. n x < n z) (λ z. n y ≡ n z → y ≡ z) (λ z more number. absurd (omega (arith, more, number, ap n is))) xs rise.0)
  one_of_number (x ∷ xs) y rise (suc k, inside, is) =
      let above : n x < n y = subst (λ (z : X). n x < n z) is (rise.0 k y (omega (arith, inside))) in
      All-cons (λ z. n y ≡ n z → y ≡ z) x xs (λ number. absurd (omega (arith, number, above)))
      (one_of_number xs y rise.1 (k, omega (arith, inside), is))

  -- a sum is a weight
  sum_is_total : (f : X → ℕ) (xs : List X) → sum_by f xs ≡ total f xs
  sum_is_total f [] = refl
  sum_is_total f (x ∷ xs) = omega (arith, sum_by-cons f x xs, sum_is_total f xs)

  -- a list in order that has the items of a rising list is that list
  pub sorted_is : (xs ys : List X) → Rise xs → IsPermutation xs ys → IsNonDecreasingBy n ys → ys ≡ xs
  sorted_is xs ys rise moved ordered =
      let weight : ℕ → X → ℕ = λ m x. only m (n x) in
      risen_again xs ys rise
      (λ m. sym (sum_is_total (weight m) xs) ∙ (sym (sum_by-IsPermutation (weight m) xs ys moved) ∙ sum_is_total (weight m) ys))
      (All-weaker (Contains xs) (λ y. All (λ x. n y ≡ n x → y ≡ x) xs) (λ y has. one_of_number xs y rise has) ys
      (All-permutation (Contains xs) xs ys moved (All-contains_itself xs))) ordered

-- what is in order by what a map gives is in order when mapped
mapped_in_order : {T X : Type 0} (f : T → X) (n : X → ℕ) (ts : List T) → IsNonDecreasingBy (λ t. n (f t)) ts → IsNonDecreasingBy n (map f ts)
mapped_in_order f n [] ordered i j d before inside = absurd (omega (arith, inside))
mapped_in_order f n (t ∷ ts) ordered i j d before inside =
    let within : j < length (t ∷ ts) = omega (arith, inside, length-map (t ∷ ts) f) in
    omega (
      arith,
      ordered i j t before within,
      ap n (get_or-map f (t ∷ ts) i t d (omega (arith, before, within))),
      ap n (get_or-map f (t ∷ ts) j t d within),
    )

-- plans of all waves, in the order of the waves' numbers, are of the waves as they stand
pub sorted_waves : {T X : Type 0} (wave : T → X) (n : X → ℕ) (plans : List T) (waves : List X) → Rise n waves → IsPermutation waves (map wave plans)
    → IsNonDecreasingBy (λ plan. n (wave plan)) plans → map wave plans ≡ waves
sorted_waves wave n plans waves rise moved ordered = sorted_is n waves (map wave plans) rise moved (mapped_in_order wave n plans ordered)

-- what an outcome tells has this number
abbrev IsNumbered : ℕ → Outcome → Type 0
IsNumbered number outcome.Plain = ⊤
IsNumbered number (outcome.Released wave) = wave.number ≡ number
IsNumbered number (outcome.Refilled refill) = refill.number ≡ number

found_numbered : (number : ℕ) (found : Option (ℕ × Wave)) (f : ℕ × Wave → Outcome) → ((x : ℕ × Wave) → IsNumbered number (f x))
    → IsNumbered number (option_map_or f found outcome.Plain)
found_numbered number None f each = tt
found_numbered number (Some x) f each = each x

release_numbered : (number : ℕ) (after : State) (name : List ℕ) (answer : Reply) → IsNumbered number (release_outcome number after name answer)
release_numbered number after name reply.Released = found_numbered number (wave_from 0 after.waves name) _ (λ x. refl)
release_numbered number after name other = tt

missing_numbered : (number : ℕ) (before after : State) (name order : List ℕ) (answer : Reply)
    → IsNumbered number (missing_outcome number before after name order answer)
missing_numbered number before after name order (reply.Refilled units) = found_numbered number (wave_from 0 after.waves name) _ (λ x. refl)
missing_numbered number before after name order other = tt

-- what a step tells has the number of its entry
step_numbered : (number : ℕ) (before : State) (asked : Command) (stepped : Stepped) → IsNumbered number (outcome_of number before asked stepped)
step_numbered number before (command.Release name) stepped = release_numbered number stepped.state name stepped.reply
step_numbered number before (command.Missing name order location quantity) stepped =
    missing_numbered number before stepped.state name order stepped.reply
step_numbered number before (command.Submit name orders) stepped = tt
step_numbered number before (command.Allot name) stepped = tt
step_numbered number before (command.Cancel name) stepped = tt
step_numbered number before (command.Pick name order location quantity) stepped = tt
step_numbered number before (command.Receive location article quantity) stepped = tt

module _ {X : Type 0} (n : X → ℕ) where
  -- a list has nothing, or one item with this number
  abbrev IsOneAt : ℕ → List X → Type 0
  IsOneAt number [] = ⊤
  IsOneAt number (x ∷ []) = n x ≡ number
  IsOneAt number (x ∷ y ∷ xs) = ⊥

  -- one item goes before those with greater numbers
  one_before : (number : ℕ) (one xs : List X) → IsOneAt number one → All (λ x. number + 1 ≤ n x) xs × Rise n xs
      → All (λ x. number ≤ n x) (one ++ xs) × Rise n (one ++ xs)
  one_before number [] xs is (later, rise) = (All-weaker (λ x. number + 1 ≤ n x) (λ x. number ≤ n x) (λ x more. omega (arith, more)) xs later, rise)
  one_before number (x ∷ []) xs is (later, rise) = (
    All-cons (λ x. number ≤ n x) x xs (omega (arith, is))
        (All-weaker (λ x. number + 1 ≤ n x) (λ x. number ≤ n x) (λ x more. omega (arith, more)) xs later),
    (All-weaker (λ x. number + 1 ≤ n x) (λ y. n x < n y) (λ y more. omega (arith, more, is)) xs later, rise),
  )
  one_before number (x ∷ y ∷ one) xs is (later, rise) = absurd is

  -- what entries tell rises
  told_rise : (told_in : Outcome → List X) → ((number : ℕ) (told : Outcome) → IsNumbered number told → IsOneAt number (told_in told)) → (opening : Opening)
      (number : ℕ) (state : State) (entries : List Entry)
      → All (λ x. number ≤ n x) (flat_map told_in (outcomes_from opening number state entries))
      × Rise n (flat_map told_in (outcomes_from opening number state entries))
  told_rise told_in one opening number state [] = (All-nil (λ x. number ≤ n x), tt)
  told_rise told_in one opening number state (entry ∷ entries) =
      let stepped = step opening state entry.command in
      one_before number (told_in (outcome_of number state entry.command stepped)) _
      (one number (outcome_of number state entry.command stepped) (step_numbered number state entry.command stepped))
      (told_rise told_in one opening (number + 1) stepped.state entries)

one_wave : (number : ℕ) (told : Outcome) → IsNumbered number told → IsOneAt (λ (wave : WaveHolds). wave.number) number (released_in told)
one_wave number outcome.Plain is = tt
one_wave number (outcome.Released wave) is = is
one_wave number (outcome.Refilled refill) is = tt

one_refill : (number : ℕ) (told : Outcome) → IsNumbered number told → IsOneAt (λ (refill : Refill). refill.number) number (refill_in told)
one_refill number outcome.Plain is = tt
one_refill number (outcome.Released wave) is = tt
one_refill number (outcome.Refilled refill) is = is

-- the numbers of the waves that entries send out after a history rise
pub waves_rise : (start : History) (entries : List Entry) → Rise (λ (wave : WaveHolds). wave.number) (released_after start entries)
waves_rise start entries =
    (told_rise (λ (wave : WaveHolds). wave.number) released_in one_wave start.opening (length start.entries) (state_after start) entries).1

-- and the numbers of their refills rise
pub refills_rise : (start : History) (entries : List Entry) → Rise (λ (refill : Refill). refill.number) (refills_after start entries)
refills_rise start entries =
    (told_rise (λ (refill : Refill). refill.number) refill_in one_refill start.opening (length start.entries) (state_after start) entries).1
