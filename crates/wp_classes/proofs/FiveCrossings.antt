-- The copies between two neighbouring aisles are one of the five crossings.
use Rattle.std.proofs.Common.{◌≡◌, ℕ, zero, suc, ◌+◌, ◌%◌, ◌≤◌, arith, refl}
use Rattle.wp_classes.specs.declared.class.Cross.{Cross}
use Rattle.wp_classes.specs.declared.class.Cross.TheVariants.{C00, C11, C20, C02, C22}

-- how many copies of the back cross aisle a crossing has
abbrev pub copies_behind : Cross → ℕ
copies_behind C00 = 0
copies_behind C11 = 1
copies_behind C20 = 2
copies_behind C02 = 0
copies_behind C22 = 2

-- how many copies of the front cross aisle a crossing has
abbrev pub copies_in_front : Cross → ℕ
copies_in_front C00 = 0
copies_in_front C11 = 1
copies_in_front C20 = 0
copies_in_front C02 = 2
copies_in_front C22 = 2

-- so many copies behind and so many in front are a crossing
pub record IsCrossing (behind front : ℕ) : Type 0 where
  pub cross : Cross
  pub behind_is : behind ≡ copies_behind cross
  pub front_is : front ≡ copies_in_front cross

-- at most two copies behind and two in front, an even number together, are one of the five crossings
pub one_of_five_crossings : (behind front : ℕ) → behind ≤ 2 → front ≤ 2 → (behind + front) % 2 ≡ 0 → IsCrossing behind front
one_of_five_crossings zero zero low near even = record { cross = C00; behind_is = refl; front_is = refl }
one_of_five_crossings zero (suc zero) low near even = absurd (omega arith)
one_of_five_crossings zero (suc (suc zero)) low near even = record { cross = C02; behind_is = refl; front_is = refl }
one_of_five_crossings zero (suc (suc (suc front))) low near even = absurd (omega arith)
one_of_five_crossings (suc zero) zero low near even = absurd (omega arith)
one_of_five_crossings (suc zero) (suc zero) low near even = record { cross = C11; behind_is = refl; front_is = refl }
one_of_five_crossings (suc zero) (suc (suc zero)) low near even = absurd (omega arith)
one_of_five_crossings (suc zero) (suc (suc (suc front))) low near even = absurd (omega arith)
one_of_five_crossings (suc (suc zero)) zero low near even = record { cross = C20; behind_is = refl; front_is = refl }
one_of_five_crossings (suc (suc zero)) (suc zero) low near even = absurd (omega arith)
one_of_five_crossings (suc (suc zero)) (suc (suc zero)) low near even = record { cross = C22; behind_is = refl; front_is = refl }
one_of_five_crossings (suc (suc zero)) (suc (suc (suc front))) low near even = absurd (omega arith)
one_of_five_crossings (suc (suc (suc behind))) front low near even = absurd (omega arith)
