-- What follows for the loads of a balanced assignment, and for those of any assignment.
use Rattle.std.proofs.Common.{◌≡◌, ℕ, zero, suc, ◌+◌, ◌-◌, ◌*◌, ◌/◌, ◌<◌, ◌≤◌, List, length, get_or, sum, arith, sym, ◌∙◌, subst}
use Rattle.std.proofs.Math.Nat.{div-lt_iff_lt-mul}
use Rattle.std.proofs.lemmas.List.Elements.{All-get_or}
use Rattle.wp_crew.specs.Crews.{AreLoads, IsAssignment, IsNearTheMean, IsSettled, NoneIsBelow, greatest, least_longest, load}
use Rattle.wp_crew.specs.Turns.{IsBalanced}
use Rattle.wp_crew.proofs.Greatest.{greatest-le, le-greatest}
use Rattle.wp_crew.proofs.LoadSums.{length-le-load}
use Rattle.wp_crew.proofs.Totals.{total_at_most, total_near, total_of_loads}

-- the owner of a length is one of the pickers
owner_below : (lengths : List ℕ) (pickers : ℕ) (picker_of : List ℕ) (place : ℕ) → IsAssignment lengths pickers picker_of → place < length lengths
    → get_or picker_of place 0 < pickers
owner_below lengths pickers picker_of place is within =
    All-get_or (λ (k : ℕ). k < pickers) picker_of place 0 (omega (arith, within, is.each)) is.below

-- a load is no further above another than each length of its picker
no_further : (lengths : List ℕ) (pickers : ℕ) (picker_of loads : List ℕ) → IsBalanced lengths pickers picker_of
    → AreLoads lengths pickers picker_of loads → (place other : ℕ) → place < length lengths → other < pickers
    → get_or loads (get_or picker_of place 0) 0 ≤ get_or loads other 0 + get_or lengths place 0
no_further lengths pickers picker_of loads is are place other within low =
    omega (
      arith,
      is.balanced place other within low,
      are.sums (get_or picker_of place 0) (owner_below lengths pickers picker_of place is.assigned within),
      are.sums other low,
    )

pub is_settled : (lengths : List ℕ) (pickers : ℕ) (picker_of loads : List ℕ) → IsBalanced lengths pickers picker_of
    → AreLoads lengths pickers picker_of loads → IsSettled lengths picker_of loads
is_settled lengths pickers picker_of loads is are place other within low longest =
    omega (arith, longest, no_further lengths pickers picker_of loads is are place other within (omega (arith, low, are.count)))

-- the mean, rounded up, of what so many times a number is not below
mean_at_most : (total pickers most : ℕ) → 1 ≤ pickers → total ≤ pickers * most → (total + (pickers - 1)) / pickers ≤ most
mean_at_most total pickers most some enough =
    let below : total + (pickers - 1) < (most + 1) * pickers = omega arith in
    omega (arith, (div-lt_iff_lt-mul {k = pickers} {x = total + (pickers - 1)} {y = most + 1} some).1 below)

pub none_is_below : (lengths : List ℕ) (pickers : ℕ) → 1 ≤ pickers → NoneIsBelow lengths pickers (least_longest lengths pickers)
none_is_below lengths pickers some picker_of loads is are =
    let at_most = λ (k : ℕ) (low : k < pickers). le-greatest loads k (omega (arith, low, are.count)) in
    let each = greatest-le lengths (greatest loads) (λ i within.
    let low = owner_below lengths pickers picker_of i is within in
    omega (
      arith,
      length-le-load lengths picker_of i is.each within,
      are.sums (get_or picker_of i 0) low,
      at_most (get_or picker_of i 0) low,
    )) in
    let together = total_at_most (load lengths picker_of) pickers (greatest loads) (λ k low. omega (arith, are.sums k low, at_most k low)) in
    let mean = mean_at_most (sum lengths) pickers (greatest loads) some
    (omega (arith, total_of_loads lengths picker_of pickers is.each is.below, together)) in
    omega (arith, each, mean)

-- a product with one less
one_less : (pickers longest total one : ℕ) → 1 ≤ pickers → pickers * longest + one ≤ total + pickers * one
    → pickers * longest ≤ total + (pickers - 1) * one
one_less zero longest total one some near = absurd (omega arith)
one_less (suc more) longest total one some near =
    let e : suc more - 1 ≡ more = omega arith in
    subst (λ k. suc more * longest ≤ total + k * one) (sym e) (omega arith)

pub is_near_the_mean : (lengths : List ℕ) (pickers : ℕ) (picker_of loads : List ℕ) (longest : ℕ) → 1 ≤ pickers
    → IsBalanced lengths pickers picker_of → AreLoads lengths pickers picker_of loads
    → IsNearTheMean lengths pickers picker_of loads longest
is_near_the_mean lengths pickers picker_of loads longest some is are place within has =
    let owner = get_or picker_of place 0 in
    let low = owner_below lengths pickers picker_of place is.assigned within in
    let near = total_near (load lengths picker_of) pickers longest (get_or lengths place 0) owner low (sym (are.sums owner low) ∙ has)
    (λ k less. omega (arith, are.sums owner low, has, is.balanced place k within less)) in
    one_less pickers longest (sum lengths) (get_or lengths place 0) some
    (omega (arith, total_of_loads lengths picker_of pickers is.assigned.each is.assigned.below, near))
