-- From how a tour goes on to a route, and back.
use Rattle.std.proofs.Common.{◌≡◌, ℕ, zero, suc, ◌+◌, ◌-◌, ◌*◌, ◌≤◌, ◌<◌, ◌==◌, true, IsTrue, List, Option, Some, is_some, if◌then◌else◌, arith, refl, sym}
use Rattle.std.proofs.Common.{◌∙◌, ap, subst}
use Rattle.std.proofs.lemmas.Bool.{cond-false, cond-true, eq-eqb, ne_eqb, some_since}
use Rattle.std.proofs.lemmas.Option.{same_Some}
use Rattle.wp_model.specs.declared.point.Point.{Point}
use Rattle.wp_model.specs.Warehouse.{Layout}
use Rattle.wp_graph.specs.declared.ways.AisleWays.{AisleWays}
use Rattle.wp_classes.specs.declared.class.Class.{Class}
use Rattle.wp_classes.specs.declared.class.Class.TheVariants.{EE1, Z00}
use Rattle.wp_classes.specs.declared.class.Way.{Way}
use Rattle.wp_classes.specs.declared.class.Way.TheVariants.{Double}
use Rattle.wp_classes.specs.declared.class.Cross.{Cross}
use Rattle.wp_classes.specs.declared.class.Cross.TheVariants.{C00, C22}
use Rattle.wp_classes.specs.Choices.{Block, ComesOn, ComesTo, IsAllowed, IsLeastRoute, Route, TakesCross, TakesWay, block_of}
use Rattle.wp_classes.specs.Onward.{AreOnward, IsLeastOf, Onward, Through}
use Rattle.wp_classes.specs.Least.{least_by_way}
use Rattle.wp_classes.specs.declared.lengths.OnwardLengths.{OnwardLengths}
use Rattle.wp_classes.specs.Tables.{class_after_cross, class_after_way, copies, is_whole}
use Rattle.wp_classes.proofs.LeastLengths.{least_ways}

-- two routes are alike up to an aisle
pub record AreAlike (one other : Route) (more : ℕ) : Type 0 where
  pub ways : (aisle : ℕ) → 1 ≤ aisle → aisle ≤ suc more → one.way aisle ≡ other.way aisle
  pub crosses : (aisle : ℕ) → 1 ≤ aisle → aisle ≤ more → one.cross aisle ≡ other.cross aisle

-- a route comes where one that is alike comes
pub comes_alike : (block : Block) (one other : Route) (more : ℕ) (class : Class) (t : ℕ) → AreAlike one other more → ComesTo block one more class t
    → ComesTo block other more class t
comes_alike block one other zero class t alike takes = subst (λ (w : Way). TakesWay (block.ways 1) w Z00 class t)
    (alike.ways 1 (omega arith) (omega arith)) takes
comes_alike block one other (suc more) class t alike (before, between, so_far, across, through, comes, crosses, takes, total) =
    let nearer : AreAlike one other more = record {
      ways = λ aisle some le. alike.ways aisle some (omega arith);
      crosses = λ aisle some le. alike.crosses aisle some (omega arith);
    } in (
      before,
      between,
      so_far,
      across,
      through,
      comes_alike block one other more before so_far nearer comes,
      subst (λ (c : Cross). TakesCross (block.spacing (suc more)) c before between across) (alike.crosses (suc more) (omega arith) (omega arith)) crosses,
      subst (λ (w : Way). TakesWay (block.ways (suc (suc more))) w between class through) (alike.ways (suc (suc more)) (omega arith) (omega arith)) takes,
      total,
    )

-- a route that takes this crossing after an aisle, and this way through the next
abbrev pub then_takes : Route → ℕ → Cross → Way → Route
then_takes route aisle cross way = record { way = λ a. if a == suc aisle then way else route.way a; cross = λ a. if a == aisle then cross else route.cross a }

-- a route that takes them comes by this crossing and this way to the next aisle
pub comes_further : (block : Block) (route : Route) (more : ℕ) (before between class : Class) (so_far across through : ℕ) (cross : Cross) (way : Way) →
    ComesTo block route more before so_far → TakesCross (block.spacing (suc more)) cross before between across
    → TakesWay (block.ways (suc (suc more))) way between class through →
    ComesTo block (then_takes route (suc more) cross way) (suc more) class (so_far + across + through)
comes_further block route more before between class so_far across through cross way comes crosses takes =
    let next = then_takes route (suc more) cross way in
    let alike : AreAlike route next more = record {
      ways = λ aisle some le. sym (cond-false (aisle == suc (suc more)) way (route.way aisle) (ne_eqb _ _ (λ e. omega arith)));
      crosses = λ aisle some le. sym (cond-false (aisle == suc more) cross (route.cross aisle) (ne_eqb _ _ (λ e. omega arith)));
    } in (
      before,
      between,
      so_far,
      across,
      through,
      comes_alike block route next more before so_far alike comes,
      subst (λ (c : Cross). TakesCross (block.spacing (suc more)) c before between across)
          (sym (cond-true (suc more == suc more) cross (route.cross (suc more)) (eq-eqb _ _ refl))) crosses,
      subst (λ (w : Way). TakesWay (block.ways (suc (suc more))) w between class through)
          (sym (cond-true (suc (suc more) == suc (suc more)) way (route.way (suc (suc more))) (eq-eqb _ _ refl))) takes,
      refl,
    )

-- some route for all aisles makes a whole tour of this length
abbrev pub MakesWhole : Block → ℕ → ℕ → Type 0
MakesWhole block more total = (route : Route) × (class : Class) × ComesTo block route more class total × IsTrue (is_whole class)

-- a route with a way to go on is a route for all aisles
pub whole_from_onward : (block : Block) (route : Route) (left more all : ℕ) (class : Class) (t r : ℕ) → all ≡ more + left →
    ComesTo block route more class t → Onward block left (suc more) class r → MakesWhole block all (t + r)
whole_from_onward block route zero more all class t r is comes on =
    let same : more ≡ all = omega arith in
    let total : t ≡ t + r = omega (arith, on.1) in
    (route, class, subst (λ n. ComesTo block route n class (t + r)) same (subst (λ s. ComesTo block route more class s) total comes), on.0)
whole_from_onward block route (suc left) more all class t r is comes
    (cross, (between, across, rest, crosses, (way, (next, through, far, takes, on, total')), total)) =
    let further = comes_further block route more class between next t across through cross way comes crosses takes in
    let whole = whole_from_onward block (then_takes route (suc more) cross way) left (suc more) all next (t + across + through) far (omega arith) further on in
    let same : t + across + through + far ≡ t + r = omega (arith, total, total') in
    subst (λ s. MakesWhole block all s) same whole

-- a route with a way to go on is a way to go on from the first aisle
pub onward_from_route : (block : Block) (route : Route) (more left all : ℕ) (class : Class) (t r : ℕ) → all ≡ more + left →
    ComesTo block route more class t → Onward block left (suc more) class r → Through (λ next rest. Onward block all 1 next rest) (block.ways 1) Z00 (t + r)
onward_from_route block route zero left all class t r is takes on =
    let same : left ≡ all = omega arith in
    (route.way 1, (class, t, r, takes, subst (λ n. Onward block n 1 class r) same on, refl))
onward_from_route block route (suc more) left all class t r is (before, between, so_far, across, through, comes, crosses, takes, total) on =
    let further : Onward block (suc left) (suc more) before (across + (through + r)) =
    (route.cross (suc more), (between, across, through + r, crosses, (route.way (suc (suc more)), (class, through, r, takes, on, refl)), refl)) in
    let rest = onward_from_route block route more (suc left) all before so_far (across + (through + r)) (omega arith) comes further in
    let same : so_far + (across + (through + r)) ≡ t + r = omega (arith, total) in
    subst (λ s. Through (λ next rest. Onward block all 1 next rest) (block.ways 1) Z00 s) same rest

-- two passes of each aisle and two of each cross aisle make a whole tour
pub onward_twice : (block : Block) (left aisle : ℕ) → (t : ℕ) × Onward block left aisle EE1 t
onward_twice block zero aisle = (0, (refl, refl))
onward_twice block (suc left) aisle =
    let rest = onward_twice block left (suc aisle) in
    let ways = block.ways (suc aisle) in (
      copies C22 * block.spacing aisle + (ways.double + rest.0),
      (
        C22,
        (
          EE1,
          copies C22 * block.spacing aisle,
          ways.double + rest.0,
          record { allowed = refl; length_is = refl },
          (Double, (EE1, ways.double, rest.0, record { allowed = refl; applies = refl }, rest.1, refl)),
          refl,
        ),
      ),
    )

-- the least length of all ways to go on from the first aisle
pub record IsLeastFirst (block : Block) (left : ℕ) (least : Option ℕ) : Type 0 where
  pub is : IsLeastOf (λ t. Through (λ next rest. Onward block left 1 next rest) (block.ways 1) Z00 t) least

-- the least way to go on from the first aisle is the length of the least route
pub least_route : (layout : Layout) (picks : List Point) (total : ℕ) →
    IsLeastFirst (block_of layout picks) (layout.aisles - 1) (Some total) → IsLeastRoute layout picks total
least_route layout picks total is = record {
  some =
      let block = block_of layout picks in
      let first = is.is.0 in
      let by = first.1 in
      let route : Route = record { way = λ aisle. first.0; cross = λ aisle. C00 } in
      let whole = whole_from_onward block route (layout.aisles - 1) 0 (layout.aisles - 1) by.0 by.1 by.2 (omega arith) by.3 by.4 in
      (whole.0, subst (λ t. IsAllowed layout picks whole.0 t) (sym by.5) (record { class = whole.1; comes = whole.2; whole = whole.3 }));
  least = λ route other allowed.
      let block = block_of layout picks in
      let through = onward_from_route block route (layout.aisles - 1) 0 (layout.aisles - 1) allowed.class other 0 (omega arith) allowed.comes
      (allowed.whole, refl) in
      let up = is.is.1 (other + 0) through in omega (arith, up);
}

-- there is always a way to go on
pub some_way_on : (block : Block) (left : ℕ) (least : Option ℕ) → IsLeastFirst block left least → is_some least ≡ true
some_way_on block left least is =
    some_since least _ _ is.is
    (λ no_one. let rest = onward_twice block left 1 in
    no_one ((block.ways 1).double + rest.0) (Double, (EE1, (block.ways 1).double, rest.0, record { allowed = refl; applies = refl }, rest.1, refl)))

-- the least length by the first way is that of all ways to go on
pub least_first : (block : Block) (left : ℕ) (ways : AisleWays) (lengths : OnwardLengths) (least : Option ℕ) → AreOnward block left 1 lengths
    → ways ≡ block.ways 1
    → least ≡ least_by_way ways lengths Z00 → IsLeastFirst block left least
least_first block left ways lengths least are is by =
    let on : Class → ℕ → Type 0 = λ next rest. Onward block left 1 next rest in
    record {
      is = subst (λ (o : Option ℕ). IsLeastOf (λ t. Through on (block.ways 1) Z00 t) o)
          (sym (by ∙ ap (λ (w : AisleWays). least_by_way w lengths Z00) is)) (least_ways on (block.ways 1) lengths Z00 are.least);
    }

-- after as many aisles as there are but one, the first is left
pub at_first : (block : Block) (all done : ℕ) (lengths : OnwardLengths) → 1 ≤ all → all ≤ done → done ≤ all
    → AreOnward block (all - (all + 1 - done)) (all + 1 - done) lengths → AreOnward block (all - 1) 1 lengths
at_first block all done lengths some low high are =
    let first : all + 1 - done ≡ 1 = omega arith in subst (λ (a : ℕ). AreOnward block (all - a) a lengths) first are

-- a route comes to one class with one length
pub comes_same : (block : Block) (route : Route) (more : ℕ) (c d : Class) (s t : ℕ) → ComesTo block route more c s → ComesTo block route more d t → (c ≡ d)
    × (s ≡ t)
comes_same block route zero c d s t one two = (same_Some _ _ (sym one.allowed ∙ two.allowed), same_Some _ _ (sym one.applies ∙ two.applies))
comes_same block route (suc more) c d s t (b, m, o, a, h, comes, crosses, takes, sum) (b', m', o', a', h', comes', crosses', takes', sum') =
    let before = comes_same block route more b b' o o' comes comes' in
    let between : m ≡ m' = same_Some _ _ (sym crosses.allowed
    ∙ subst (λ (x : Class). class_after_cross x (route.cross (suc more)) ≡ Some m') (sym before.0) crosses'.allowed) in
    let after : c ≡ d = same_Some _ _ (sym takes.allowed ∙ subst (λ (x : Class). class_after_way x (route.way (suc (suc more))) ≡ Some d)
    (sym between) takes'.allowed) in
    let through : h ≡ h' = same_Some _ _ (sym takes.applies ∙ takes'.applies) in
    (after, omega (arith, before.1, crosses.length_is, crosses'.length_is, through, sum, sum'))

-- a route that comes to a later aisle comes to each earlier one
pub comes_earlier : (block : Block) (route : Route) (more further : ℕ) (class : Class) (t : ℕ) → ComesTo block route (more + further) class t → (c : Class)
    × (s : ℕ) × ComesTo block route more c s
comes_earlier block route more zero class t comes = let same : more + 0 ≡ more = omega arith in
    (class, t, subst (λ (n : ℕ). ComesTo block route n class t) same comes)
comes_earlier block route more (suc further) class t comes =
    let same : more + suc further ≡ suc (more + further) = omega arith in
    let last = subst (λ (n : ℕ). ComesTo block route n class t) same comes in
    comes_earlier block route more further last.0 last.2 last.5

-- a route that comes to all aisles comes on from each of them but the last
pub comes_on : (block : Block) (route : Route) (more all : ℕ) (class end : Class) (so_far total : ℕ) → more < all → ComesTo block route more class so_far
    → ComesTo block route all end total → ComesOn block route more class so_far
comes_on block route more all class end so_far total early here whole =
    let same : all ≡ suc more + (all - suc more) = omega arith in
    let next = comes_earlier block route (suc more) (all - suc more) end total (subst (λ (n : ℕ). ComesTo block route n end total) same whole) in
    let step = next.2 in
    let before = comes_same block route more step.0 class step.2 so_far step.5 here in
    let crosses = subst (λ (c : Class). TakesCross (block.spacing (suc more)) (route.cross (suc more)) c step.1 step.3) before.0 step.6 in
    record {
      between = step.1;
      next = next.0;
      across = step.3;
      through = step.4;
      crosses = crosses;
      takes = step.7;
      comes = (class, step.1, so_far, step.3, step.4, here, crosses, step.7, refl);
    }
