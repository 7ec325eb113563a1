-- Waves of which all but the last of each group are full are as few as can be.
use Rattle.std.proofs.Common.{◌≡◌, ◌≢◌, ◌∙◌, refl, sym, ap, ℕ, zero, suc, ◌+◌, ◌*◌, ◌<◌, ◌≤◌, inl, inr, Bool, true, false, List, [], ◌∷◌, ◌++◌, length, Some}
use Rattle.std.proofs.Common.{slice_get, subst, arith, All}
use Rattle.std.proofs.Math.Nat.{suc-mul}
use Rattle.std.proofs.lemmas.Bool.{cases_eq}
use Rattle.std.proofs.lemmas.List.Elements.{All-head, All-tail}
use Rattle.std.proofs.lemmas.List.Sorted.{sum_by-IsPermutation}
use Rattle.std.proofs.lemmas.List.Sums.{sum_by-append, sum_by-cons}
use Rattle.std.proofs.lemmas.Slice.Eq.{bytes_eq-Decides}
use Rattle.std.specs.Str.{bytes_eq}
use Rattle.wp_waves.specs.Filling.{AreFilled}
use Rattle.wp_waves.specs.Waves.{AreAsFew, AreOfOneGroup, AreWavesOf, HasOneGroup, is_of_group, leaves_with, one_if, orders_of_group, waves_of_group}
use Rattle.wp_waves.specs.Weights.{all_of}
use Rattle.wp_waves.specs.declared.open_orders.OpenOrder.{OpenOrder}

-- how many orders of a group a wave has: all of them or none
abbrev pub OrdersIn : List ℕ → List OpenOrder → Bool → Type 0
OrdersIn group w true = orders_of_group group w ≡ length w
OrdersIn group w false = orders_of_group group w ≡ 0

same_test : (group : List ℕ) (one other : OpenOrder) → other.group ≡ one.group → leaves_with group other ≡ leaves_with group one
same_test group one other same = ap (λ g. bytes_eq g group) same

all_or_none : (group : List ℕ) (one : OpenOrder) (others : List OpenOrder) (b : Bool) → leaves_with group one ≡ b
    → All (λ (other : OpenOrder). other.group ≡ one.group) others → OrdersIn group others b
all_or_none group one [] true is same = refl
all_or_none group one [] false is same = refl
all_or_none group one (o ∷ others) true is same =
    let head = All-head (λ (other : OpenOrder). other.group ≡ one.group) o others same in
    let test : one_if (leaves_with group o) ≡ 1 = ap one_if (same_test group one o head ∙ is) in
    let rest = all_or_none group one others true is (All-tail (λ (other : OpenOrder). other.group ≡ one.group) o others same) in
    omega (arith, sum_by-cons (λ (x : OpenOrder). one_if (leaves_with group x)) o others, test, rest)
all_or_none group one (o ∷ others) false is same =
    let head = All-head (λ (other : OpenOrder). other.group ≡ one.group) o others same in
    let test : one_if (leaves_with group o) ≡ 0 = ap one_if (same_test group one o head ∙ is) in
    let rest = all_or_none group one others false is (All-tail (λ (other : OpenOrder). other.group ≡ one.group) o others same) in
    omega (arith, sum_by-cons (λ (x : OpenOrder). one_if (leaves_with group x)) o others, test, rest)

-- the orders of a group in a wave
pub orders_in : (group : List ℕ) (w : List OpenOrder) (b : Bool) → HasOneGroup w → is_of_group group w ≡ b → OrdersIn group w b
orders_in group [] true has is = absurd (cc is)
orders_in group [] false has is = refl
orders_in group (one ∷ others) true has is =
    let rest = all_or_none group one others true is has in
    omega (arith, sum_by-cons (λ (x : OpenOrder). one_if (leaves_with group x)) one others, ap one_if is, rest)
orders_in group (one ∷ others) false has is =
    let rest = all_or_none group one others false is has in
    omega (arith, sum_by-cons (λ (x : OpenOrder). one_if (leaves_with group x)) one others, ap one_if is, rest)

-- waves that are full but for the last of each group
pub record AreFull (most : ℕ) (waves : List (List OpenOrder)) : Type 0 where
  pub some : All (λ wave. 0 < length wave) waves
  pub few : All (λ wave. length wave ≤ most) waves
  pub group : All HasOneGroup waves
  pub full : (i j : ℕ) (one other : List OpenOrder) → i < j → slice_get waves i ≡ Some one → slice_get waves j ≡ Some other → AreOfOneGroup one other
      → length one ≡ most

after_first : (most : ℕ) (w : List OpenOrder) (waves : List (List OpenOrder)) → AreFull most (w ∷ waves) → AreFull most waves
after_first most w waves are = record {
  some = All-tail (λ (v : List OpenOrder). 0 < length v) w waves are.some;
  few = All-tail (λ (v : List OpenOrder). length v ≤ most) w waves are.few;
  group = All-tail HasOneGroup w waves are.group;
  full = λ i j a b before at_i at_j both. are.full (suc i) (suc j) a b (omega arith) at_i at_j both;
}

-- a wave of a group stands among waves, or there is none
pub record IsAmongWaves (group : List ℕ) (waves : List (List OpenOrder)) : Type 0 where
  pub place : ℕ
  pub wave : List OpenOrder
  pub there : slice_get waves place ≡ Some wave
  pub is : is_of_group group wave ≡ true

first_or_later : (b : Bool) (group : List ℕ) (w : List OpenOrder) (waves : List (List OpenOrder)) → is_of_group group w ≡ b
    → waves_of_group group (w ∷ waves) ≢ 0 → (waves_of_group group waves ≢ 0 → IsAmongWaves group waves) → IsAmongWaves group (w ∷ waves)
first_or_later true group w waves is some rest = record { place = 0; wave = w; there = refl; is = is }
first_or_later false group w waves is some rest =
    let later = rest
    (λ none. some (omega (arith, sum_by-cons (λ (v : List OpenOrder). one_if (is_of_group group v)) w waves, ap one_if is, none))) in
    record { place = suc later.place; wave = later.wave; there = later.there; is = later.is }

some_wave : (group : List ℕ) (waves : List (List OpenOrder)) → waves_of_group group waves ≢ 0 → IsAmongWaves group waves
some_wave group [] some = absurd (some refl)
some_wave group (w ∷ waves) some = first_or_later (is_of_group group w) group w waves refl some (some_wave group waves)

-- the counts of a group in waves
pub record AreCounted (most orders waves : ℕ) : Type 0 where
  pub enough : orders ≤ waves * most
  pub needed : waves ≢ 0 → waves * most < orders + most

times_more : (most waves : ℕ) → suc waves * most ≡ most + waves * most
times_more most waves = omega (arith, suc-mul waves most)

one_wave_more : (most orders waves size : ℕ) → 0 < size → size ≤ most → AreCounted most orders waves → (waves ≢ 0 → size ≡ most)
    → AreCounted most (size + orders) (suc waves)
one_wave_more most orders waves size some few are full = record {
  enough = omega (arith, are.enough, times_more most waves);
  needed = λ more. elim (cases_eq waves 0) [
    | inl none ↦ omega (arith, times_more most waves, ap (λ k. k * most) none)
    | inr others ↦ omega (arith, times_more most waves, full others, are.needed others)
  ];
}

with_first : (b : Bool) (group : List ℕ) (most : ℕ) (w : List OpenOrder) (waves : List (List OpenOrder)) → AreFull most (w ∷ waves)
    → AreCounted most (orders_of_group group (all_of waves)) (waves_of_group group waves) → is_of_group group w ≡ b
    → AreCounted most (orders_of_group group (w ++ all_of waves)) (waves_of_group group (w ∷ waves))
with_first true group most w waves are rest is =
    let orders_are = sum_by-append (λ (x : OpenOrder). one_if (leaves_with group x)) w (all_of waves) in
    let waves_are = sum_by-cons (λ (v : List OpenOrder). one_if (is_of_group group v)) w waves in
    let all = orders_in group w true (All-head HasOneGroup w waves are.group) is in
    let orders : length w + orders_of_group group (all_of waves) ≡ orders_of_group group (w ++ all_of waves) = omega (arith, orders_are, all) in
    let more : suc (waves_of_group group waves) ≡ waves_of_group group (w ∷ waves) = omega (arith, waves_are, ap one_if is) in
    subst (λ n. AreCounted most n (waves_of_group group (w ∷ waves))) orders
    (subst (AreCounted most (length w + orders_of_group group (all_of waves))) more
    (one_wave_more most (orders_of_group group (all_of waves)) (waves_of_group group waves) (length w)
    (All-head (λ (v : List OpenOrder). 0 < length v) w waves are.some) (All-head (λ (v : List OpenOrder). length v ≤ most) w waves are.few) rest
    (λ others. let later = some_wave group waves others in
    are.full 0 (suc later.place) w later.wave (omega arith) refl later.there (group, is, later.is))))
with_first false group most w waves are rest is =
    let orders_are = sum_by-append (λ (x : OpenOrder). one_if (leaves_with group x)) w (all_of waves) in
    let waves_are = sum_by-cons (λ (v : List OpenOrder). one_if (is_of_group group v)) w waves in
    let none = orders_in group w false (All-head HasOneGroup w waves are.group) is in
    let orders : orders_of_group group (all_of waves) ≡ orders_of_group group (w ++ all_of waves) = omega (arith, orders_are, none) in
    let same : waves_of_group group waves ≡ waves_of_group group (w ∷ waves) = omega (arith, waves_are, ap one_if is) in
    subst (λ n. AreCounted most n (waves_of_group group (w ∷ waves))) orders
    (subst (AreCounted most (orders_of_group group (all_of waves))) same rest)

counted : (group : List ℕ) (most : ℕ) (waves : List (List OpenOrder)) → AreFull most waves
    → AreCounted most (orders_of_group group (all_of waves)) (waves_of_group group waves)
counted group most [] are = record { enough = omega arith; needed = λ some. absurd (some refl) }
counted group most (w ∷ waves) are =
    with_first (is_of_group group w) group most w waves are (counted group most waves (after_first most w waves are)) refl

-- no wave of a group, and no order of it
none_needed : (most orders waves : ℕ) → 0 < most → AreCounted most orders waves → AreAsFew most orders waves
none_needed most orders waves room are = record {
  enough = are.enough;
  needed = elim (cases_eq waves 0) [
    | inl none ↦ omega (arith, ap (λ k. k * most) none)
    | inr some ↦ are.needed some
  ];
}

-- filled waves are right
pub filled_are_waves : (most : ℕ) (served : List OpenOrder) (waves : List (List OpenOrder)) → 0 < most → AreFilled most served waves
    → AreWavesOf most served waves
filled_are_waves most served waves room are = record {
  once = are.once;
  some = are.some;
  few = are.few;
  group = are.group;
  as_served = are.as_served;
  as_few = λ group.
      let full : AreFull most waves = record { some = are.some; few = are.few; group = are.group; full = are.full } in
      let same = sum_by-IsPermutation (λ (x : OpenOrder). one_if (leaves_with group x)) served (all_of waves) are.once in
      subst (λ n. AreAsFew most n (waves_of_group group waves)) same
      (none_needed most (orders_of_group group (all_of waves)) (waves_of_group group waves) room (counted group most waves full));
  ranks = are.ranks;
  by_first = are.by_first;
}
