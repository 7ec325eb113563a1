-- Bounds of lengths, which show that no sum of them wraps.
use Rattle.std.proofs.Common.{◌≡◌, ℕ, zero, suc, ◌+◌, ◌-◌, ◌*◌, ◌^◌, ◌<◌, ◌≤◌, List, subst, Option, Some, None, IfSome, ap, arith, lit≤, sym, ◌∙◌}
use Rattle.std.proofs.lemmas.Nat.{mul-le}
use Rattle.std.proofs.lemmas.Option.{same_Some}
use Rattle.wp_model.specs.declared.point.Point.{Point}
use Rattle.wp_model.specs.Warehouse.{Layout, IsLayout}
use Rattle.wp_graph.specs.declared.ways.AisleWays.{AisleWays}
use Rattle.wp_graph.specs.AisleLengths.{AreAtMost, ways_of}
use Rattle.wp_graph.proofs.AisleOffsets.{spacing_small}
use Rattle.wp_graph.proofs.WayBounds.{ways_small}
use Rattle.wp_classes.specs.declared.class.Class.{Class}
use Rattle.wp_classes.specs.declared.class.Class.TheVariants.{Z00}
use Rattle.wp_classes.specs.declared.class.Way.{Way}
use Rattle.wp_classes.specs.declared.class.Way.TheVariants.{Pass, Back, Front, Gap, Double, Skip}
use Rattle.wp_classes.specs.declared.class.Cross.{Cross}
use Rattle.wp_classes.specs.declared.class.Cross.TheVariants.{C00, C11, C20, C02, C22}
use Rattle.wp_classes.specs.declared.lengths.OnwardLengths.{OnwardLengths}
use Rattle.wp_classes.specs.Choices.{Block, block_of}
use Rattle.wp_classes.specs.Least.{least_by_cross, least_by_way, length_at}
use Rattle.wp_classes.specs.Onward.{Across, AreOnward, IsLeastOf, Onward, Through}
use Rattle.wp_classes.specs.Tables.{copies, way_length}
use Rattle.wp_classes.proofs.LeastLengths.{least_ways, onward_left}
use Rattle.wp_classes.proofs.Routes.{IsLeastFirst}

-- the lengths of a layout of greatest size
pub record IsSmall (block : Block) : Type 0 where
  pub ways : (aisle : ℕ) → AreAtMost 4020000 (block.ways aisle)
  pub spacing : (aisle : ℕ) → block.spacing aisle ≤ 10000

-- the ways and the spacings of each layout are so small
pub block_small : (layout : Layout) (picks : List Point) → IsLayout layout → IsSmall (block_of layout picks)
block_small layout picks valid = record { ways = λ aisle. ways_small layout picks aisle valid; spacing = spacing_small layout valid }

-- a bound of the ways through an aisle is one of each that applies
pub ways_fit : (most : ℕ) (ways : AisleWays) → AreAtMost most ways → (way : Way) → IfSome (way_length ways way) (λ t. t ≤ most)
ways_fit most ways are Pass = are.pass
ways_fit most ways are Back = are.back
ways_fit most ways are Front = are.front
ways_fit most ways are Gap = are.gap
ways_fit most ways are Double = are.double
ways_fit most ways are Skip = are.skip

some_fits : (found : Option ℕ) (most t : ℕ) → IfSome found (λ x. x ≤ most) → found ≡ Some t → t ≤ most
some_fits None most t fits e = absurd (cc)
some_fits (Some x) most t fits e = let same = same_Some x t e in omega (arith, fits, same)

copies_few : (cross : Cross) → copies cross ≤ 4
copies_few C00 = omega arith
copies_few C11 = omega arith
copies_few C20 = omega arith
copies_few C02 = omega arith
copies_few C22 = omega arith

-- going on by some way is at most 4020000 longer than going on after it
pub through_small : (onward : Class → ℕ → Type 0) (ways : AisleWays) (most : ℕ) → AreAtMost 4020000 ways → ((c : Class) (t : ℕ) → onward c t → t ≤ most) →
    (class : Class) (t : ℕ) → Through onward ways class t → t ≤ 4020000 + most
through_small onward ways most are bound class t (way, (next, through, rest, takes, on, total)) =
    let far = bound next rest on in
    let near = some_fits (way_length ways way) 4020000 through (ways_fit 4020000 ways are way) takes.applies in
    omega (arith, far, near, total)

-- going on by some crossing is at most 40000 longer than going on after it
pub across_small : (onward : Class → ℕ → Type 0) (spacing most : ℕ) → spacing ≤ 10000 → ((c : Class) (t : ℕ) → onward c t → t ≤ most) →
    (class : Class) (t : ℕ) → Across onward spacing class t → t ≤ 40000 + most
across_small onward spacing most small bound class t (cross, (next, across, rest, takes, on, total)) =
    let far = bound next rest on in
    let few = mul-le (copies cross) spacing 4 10000 (copies_few cross) small in
    omega (arith, far, few, takes.length_is, total)

-- going on to the end is at most 4060000 long for each aisle left
pub onward_small : (block : Block) → IsSmall block → (left aisle : ℕ) (class : Class) (t : ℕ) → Onward block left aisle class t → t ≤ left * 4060000
onward_small block small zero aisle class t h = omega (arith, h.1)
onward_small block small (suc left) aisle class t h =
    let bound = λ (c : Class) (r : ℕ) (on : Onward block left (suc aisle) c r). onward_small block small left (suc aisle) c r on in
    let between = λ (c : Class) (r : ℕ) (on : Through (λ next more. Onward block left (suc aisle) next more) (block.ways (suc aisle)) c r).
    through_small (λ next more. Onward block left (suc aisle) next more) (block.ways (suc aisle)) (left * 4060000) (small.ways (suc aisle)) bound c r on in
    let whole = across_small (λ c r. Through (λ next more. Onward block left (suc aisle) next more) (block.ways (suc aisle)) c r) (block.spacing aisle)
    (4020000 + left * 4060000) (small.spacing aisle) between class t h in
    omega (arith, whole)

-- the least length from the first aisle of a layout on is below 2 ^ 28
pub first_small : (layout : Layout) (picks : List Point) (total : ℕ) → IsLayout layout →
    IsLeastFirst (block_of layout picks) (layout.aisles - 1) (Some total) → total < 2 ^ 28
first_small layout picks total valid is =
    let block = block_of layout picks in
    let small = block_small layout picks valid in
    let left = layout.aisles - 1 in
    let whole = through_small (λ next rest. Onward block left 1 next rest) (block.ways 1) (left * 4060000) (small.ways 1)
    (λ c r on. onward_small block small left 1 c r on) Z00 total is.is.0 in
    omega (arith, whole, valid.aisles)

-- a bound of all numbers with a property is one of the least
pub least_small : (P : ℕ → Type 0) (least : Option ℕ) (most : ℕ) → IsLeastOf P least → ((t : ℕ) → P t → t ≤ most) → IfSome least (λ t. t ≤ most)
least_small P None most is bound = tt
least_small P (Some m) most is bound = bound m is.0

-- with at most 64 aisles left, the least lengths on are at most 300000000
pub onward_fits : (block : Block) (left aisle : ℕ) (lengths : OnwardLengths) → IsSmall block → left ≤ 64 → AreOnward block left aisle lengths → (class : Class)
    → IfSome (length_at lengths class) (λ t. t ≤ 300000000)
onward_fits block left aisle lengths small near are class =
    least_small (λ t. Onward block left aisle class t) (length_at lengths class) 300000000 (are.least class)
    (λ t on. let b = onward_small block small left aisle class t on in omega (arith, b, near))

-- what is within a bound is within each wider one
pub fits_wider : (found : Option ℕ) (most more : ℕ) → most ≤ more → IfSome found (λ t. t ≤ most) → IfSome found (λ t. t ≤ more)
fits_wider None most more le fits = tt
fits_wider (Some t) most more le fits = omega (arith, le, fits)

-- the lengths on from an aisle of a layout fit
pub lengths_within : (layout : Layout) (picks : List Point) (left aisle : ℕ) (lengths : OnwardLengths) → IsLayout layout → left ≤ 64
    → AreOnward (block_of layout picks) left aisle lengths →
    (class : Class) → IfSome (length_at lengths class) (λ t. t ≤ 2 ^ 40)
lengths_within layout picks left aisle lengths valid near are class =
    fits_wider (length_at lengths class) 300000000 (2 ^ 40) (lit≤ tt)
    (onward_fits (block_of layout picks) left aisle lengths (block_small layout picks valid) near are class)

-- so do the ways through an aisle of a layout
pub ways_within : (layout : Layout) (picks : List Point) (aisle : ℕ) (ways : AisleWays) → IsLayout layout → ways ≡ ways_of layout picks aisle → (way : Way)
    → IfSome (way_length ways way) (λ t. t ≤ 2 ^ 40)
ways_within layout picks aisle ways valid is way =
    subst (λ (w : AisleWays). IfSome (way_length w way) (λ t. t ≤ 2 ^ 40)) (sym is)
    (fits_wider (way_length (ways_of layout picks aisle) way) 4020000 (2 ^ 40) (lit≤ tt)
    (ways_fit 4020000 (ways_of layout picks aisle) (ways_small layout picks aisle valid) way))

-- and the least lengths before the way
pub through_within : (layout : Layout) (picks : List Point) (left aisle : ℕ) (ways : AisleWays) (after through : OnwardLengths) → IsLayout layout → left ≤ 64
    → AreOnward (block_of layout picks) left aisle after →
    ways ≡ ways_of layout picks aisle → ((class : Class) → length_at through class ≡ least_by_way ways after class) → (class : Class)
    → IfSome (length_at through class) (λ t. t ≤ 2 ^ 40)
through_within layout picks left aisle ways after through valid near are is by_ways class =
    let block = block_of layout picks in
    let on : Class → ℕ → Type 0 = λ next rest. Onward block left aisle next rest in
    let small = block_small layout picks valid in
    let fits : AreAtMost 4020000 ways = subst (λ (w : AisleWays). AreAtMost 4020000 w) (sym is) (ways_small layout picks aisle valid) in
    subst (λ (o : Option ℕ). IfSome o (λ t. t ≤ 2 ^ 40)) (sym (by_ways class))
    (least_small (λ t. Through on ways class t) (least_by_way ways after class) (2 ^ 40) (least_ways on ways after class are.least)
    (λ t h. let b = through_small on ways (left * 4060000) fits (λ c r o. onward_small block small left aisle c r o) class t h in omega (arith, b, near)))

-- the least lengths on from an aisle, one aisle further left
pub onward_one_left : (block : Block) (all aisle : ℕ) (ways : AisleWays) (spacing : ℕ) (after through before : OnwardLengths) → 2 ≤ aisle → aisle ≤ all
    → AreOnward block (all - aisle) aisle after →
    ways ≡ block.ways aisle → spacing ≡ block.spacing (aisle - 1) → ((class : Class) → length_at through class ≡ least_by_way ways after class) →
    ((class : Class) → length_at before class ≡ least_by_cross spacing through class) → AreOnward block (all - (aisle - 1)) (aisle - 1) before
onward_one_left block all zero ways spacing after through before low high are is at by_ways by_crosses = absurd (omega arith)
onward_one_left block all (suc aisle) ways spacing after through before low high are is at by_ways by_crosses =
    let back : suc aisle - 1 ≡ aisle = omega arith in
    let left : all - aisle ≡ suc (all - suc aisle) = omega arith in
    let there : spacing ≡ block.spacing aisle = at ∙ ap block.spacing back in
    rw (back, left)
    (onward_left block (all - suc aisle) aisle after through before are
    (λ class. by_ways class ∙ ap (λ (w : AisleWays). least_by_way w after class) is)
    (λ class. by_crosses class ∙ ap (λ (s : ℕ). least_by_cross s through class) there))
