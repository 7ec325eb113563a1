-- The derived order of locations goes by aisle, slot and side, and L comes before R.
use Rattle.std.proofs.Common.{◌≡◌, ◌∙◌, refl, ap, ℕ, arith}
use Rattle.std.specs.Prelude.{Bool, true, false, ◌&&◌, ◌||◌, ◌==◌, nat_lt}
use Rattle.std.specs.Ordering.{is_eq, is_lt, nat_cmp, ordering_then}
use Rattle.std.specs.declared.cmp.Ordering.{Ordering}
use Rattle.std.specs.declared.cmp.Ordering.TheVariants.{Less, Equal, Greater}
use Rattle.std.proofs.lemmas.Bool.Decides.{nat_tests}
use Rattle.wp_model.specs.Location.{is_before, location_cmp, side_before, side_cmp}
use Rattle.wp_model.specs.Step.{same_location, same_side}
use Rattle.wp_model.specs.declared.location.Location.{Location}
use Rattle.wp_model.specs.declared.location.Side.{Side}
use Rattle.wp_model.specs.declared.location.Side.TheVariants as side
use Rattle.wp_model.specs.contracts.location.LocationOrd.TheImpl as ord
use Rattle.wp_model.specs.contracts.location.SideOrd.TheImpl as side_ord

cmp_of_parts : (i j k l : ℕ) (s t : Side) → ord.cmp-value.it (record { aisle = i; slot = j; side = s }) (record { aisle = k; slot = l; side = t })
    ≡ location_cmp (record { aisle = i; slot = j; side = s }) (record { aisle = k; slot = l; side = t })
cmp_of_parts i j k l side.L side.L = refl
cmp_of_parts i j k l side.L side.R = refl
cmp_of_parts i j k l side.R side.L = refl
cmp_of_parts i j k l side.R side.R = refl

-- the derived order goes by aisle, slot and side
pub cmp_is : (a b : Location) → ord.cmp-value.it a b ≡ location_cmp a b
cmp_is a b = cmp_of_parts a.aisle a.slot b.aisle b.slot a.side b.side

eq_then : (o p : Ordering) → is_eq (ordering_then o p) ≡ (is_eq o && is_eq p)
eq_then Less p = refl
eq_then Equal p = refl
eq_then Greater p = refl

lt_then : (o p : Ordering) → is_lt (ordering_then o p) ≡ (is_lt o || (is_eq o && is_lt p))
lt_then Less p = refl
lt_then Equal p = refl
lt_then Greater p = refl

nat_eq_by_cmp : (x y : ℕ) → is_eq (nat_cmp x y) ≡ (y == x)
nat_eq_by_cmp x y = grind (arith, nat_tests)

nat_eq_by_cmp_too : (x y : ℕ) → is_eq (nat_cmp x y) ≡ (x == y)
nat_eq_by_cmp_too x y = grind (arith, nat_tests)

nat_lt_by_cmp : (x y : ℕ) → is_lt (nat_cmp x y) ≡ nat_lt x y
nat_lt_by_cmp x y = grind (arith, nat_tests)

side_eq_by_cmp : (s t : Side) → is_eq (side_cmp s t) ≡ same_side t s
side_eq_by_cmp side.L side.L = refl
side_eq_by_cmp side.L side.R = refl
side_eq_by_cmp side.R side.L = refl
side_eq_by_cmp side.R side.R = refl

side_lt_by_cmp : (s t : Side) → is_lt (side_cmp s t) ≡ side_before s t
side_lt_by_cmp side.L side.L = refl
side_lt_by_cmp side.L side.R = refl
side_lt_by_cmp side.R side.L = refl
side_lt_by_cmp side.R side.R = refl

and_regroup : (p q r : Bool) → (p && (q && r)) ≡ ((p && q) && r)
and_regroup true q r = refl
and_regroup false q r = refl

-- two locations are the same where the order says so
pub same_by_cmp : (a b : Location) → is_eq (location_cmp a b) ≡ same_location b a
same_by_cmp a b =
    simp (eq_then, nat_eq_by_cmp, side_eq_by_cmp) (and_regroup (b.aisle == a.aisle) (b.slot == a.slot) (same_side b.side a.side))

-- one is before the other where the order says so
pub before_by_cmp : (a b : Location) → is_lt (location_cmp a b) ≡ is_before a b
before_by_cmp a b = simp (lt_then, nat_lt_by_cmp, nat_eq_by_cmp_too, side_lt_by_cmp)

-- the derived order of locations puts one before another just where the definition does
pub location_before : (a b : Location) → is_lt (ord.cmp-value.it a b) ≡ is_before a b
location_before a b = ap is_lt (cmp_is a b) ∙ before_by_cmp a b

-- and so does that of sides
pub side_before_is : (a b : Side) → is_lt (side_ord.cmp-value.it a b) ≡ side_before a b
side_before_is side.L side.L = refl
side_before_is side.L side.R = refl
side_before_is side.R side.L = refl
side_before_is side.R side.R = refl
