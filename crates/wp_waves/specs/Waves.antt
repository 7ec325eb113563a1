-- Which waves of served orders are right.
use Rattle.std.specs.Prelude.{◌≡◌, ◌⊎◌, ℕ, ◌+◌, ◌*◌, ◌<◌, ◌≤◌, ⊤, Bool, true, false, List, [], ◌∷◌, length, slice_get}
use Rattle.std.specs.Prelude.{Some, if◌then◌else◌}
use Rattle.std.specs.List.{All, sum_by}
use Rattle.std.specs.List.Sorted.{IsPermutation}
use Rattle.std.specs.Str.{bytes_eq}
use Rattle.wp_waves.specs.Weights.{all_of}
use Rattle.wp_waves.specs.declared.open_orders.OpenOrder.{OpenOrder}

-- a wave is of a group where its first order is
abbrev pub is_of_group : List ℕ → List OpenOrder → Bool
is_of_group group [] = false
is_of_group group (one ∷ others) = bytes_eq one.group group

-- an order is of a group
abbrev pub leaves_with : List ℕ → OpenOrder → Bool
leaves_with group one = bytes_eq one.group group

-- how many orders are of a group
abbrev pub one_if : Bool → ℕ
one_if test = if test then 1 else 0

abbrev pub orders_of_group : List ℕ → List OpenOrder → ℕ
orders_of_group group = sum_by (λ one. one_if (leaves_with group one))

-- how many waves are of a group
abbrev pub waves_of_group : List ℕ → List (List OpenOrder) → ℕ
waves_of_group group = sum_by (λ wave. one_if (is_of_group group wave))

-- all orders of a wave are of one group
abbrev pub HasOneGroup : List OpenOrder → Type 0
HasOneGroup [] = ⊤
HasOneGroup (one ∷ others) = All (λ (other : OpenOrder). other.group ≡ one.group) others

-- a list is a part of another: its items stand in it in this order
abbrev pub IsPartOf : {A : Type 0} → List A → List A → Type 0
IsPartOf [] ys = ⊤
IsPartOf (x ∷ xs) [] = ⊥
IsPartOf (x ∷ xs) (y ∷ ys) = ((x ≡ y) × IsPartOf xs ys) ⊎ IsPartOf (x ∷ xs) ys

-- the first order of each wave, wave by wave
abbrev pub first_before : List OpenOrder → List OpenOrder → List OpenOrder
first_before [] others = others
first_before (one ∷ rest) others = one ∷ others

abbrev pub firsts : List (List OpenOrder) → List OpenOrder
firsts [] = []
firsts (wave ∷ waves) = first_before wave (firsts waves)

-- no order of one wave has a rank above that of an order of another
abbrev pub GoesBefore : List OpenOrder → List OpenOrder → Type 0
GoesBefore earlier later = All (λ (one : OpenOrder). All (λ (other : OpenOrder). one.rank ≤ other.rank) later) earlier

-- two waves are of one group
abbrev pub AreOfOneGroup : List OpenOrder → List OpenOrder → Type 0
AreOfOneGroup one other = (group : List ℕ) × (is_of_group group one ≡ true) × (is_of_group group other ≡ true)

-- the orders of a group are divided by so many into waves, rounded up
pub record AreAsFew (most orders waves : ℕ) : Type 0 where
  pub enough : orders ≤ waves * most
  pub needed : waves * most < orders + most

-- Waves of served orders, in the order in which they were served: each order is in exactly one wave; a wave has 1 to so
-- many orders, of one group, in the order in which they were served; a group has as many waves as its orders divided by
-- so many, rounded up; of two waves of a group the earlier one has no rank above one of the later; and waves stand in
-- the order in which their first order was served.
pub record AreWavesOf (most : ℕ) (served : List OpenOrder) (waves : List (List OpenOrder)) : Type 0 where
  pub once : IsPermutation served (all_of waves)
  pub some : All (λ wave. 0 < length wave) waves
  pub few : All (λ wave. length wave ≤ most) waves
  pub group : All HasOneGroup waves
  pub as_served : All (λ wave. IsPartOf wave served) waves
  pub as_few : (group : List ℕ) → AreAsFew most (orders_of_group group served) (waves_of_group group waves)
  pub ranks : (i j : ℕ) (one other : List OpenOrder) → i < j → slice_get waves i ≡ Some one
      → slice_get waves j ≡ Some other → AreOfOneGroup one other
      → GoesBefore one other
  pub by_first : IsPartOf (firsts waves) served
