-- Each batch of a wave has a length: there is a shortest tour past any slots of a layout.
use Rattle.std.proofs.Common.{◌≡◌, ℕ, zero, suc, ◌-◌, ◌<◌, Bool, true, false, IsTrue, All, Contains, List, Option, Some, None, arith}
use Rattle.std.proofs.Common.{length, refl, subst}
use Rattle.std.proofs.lemmas.Bool.{both_ways, false≢true}
use Rattle.std.proofs.lemmas.List.Elements.{All-contains}
use Rattle.wp_model.specs.declared.point.Point.{Point}
use Rattle.wp_model.specs.Tours.{IsShortest}
use Rattle.wp_model.specs.Warehouse.{Layout}
use Rattle.wp_graph.specs.PickSets.{AreSlots}
use Rattle.wp_graph.proofs.Members.{Contains-from_among, among_from_Contains, flat_map_source}
use Rattle.wp_classes.specs.declared.class.Class.{Class}
use Rattle.wp_classes.specs.declared.class.Class.TheVariants.{UU1, E01, ZE1, EE1, EE2, Z00, Z01}
use Rattle.wp_classes.specs.Choices.{Block, block_of}
use Rattle.wp_classes.specs.Least.{least_by_cross, length_at}
use Rattle.wp_classes.specs.Onward.{Across, IsLeastOf, Onward, Through}
use Rattle.wp_classes.specs.Tables.{is_whole}
use Rattle.wp_classes.proofs.LeastLengths.{least_crosses}
use Rattle.wp_classes.proofs.Routes.{IsLeastFirst, least_route, some_way_on}
use Rattle.wp_classes.proofs.Shortest.{shortest}
use Rattle.wp_fast.specs.Lengths.{by_some_way}
use Rattle.wp_fast.proofs.LeastNeeded.{least_by_some}
use Rattle.wp_lengths.specs.Lengths.{batch_picks}
use Rattle.wp_lengths.specs.Waves.{WavePicks, picks_of}
use Rattle.wp_lengths.proofs.FewerOrders.{more_orders_no_shorter}
use Rattle.wp_cert.specs.Visited.{HasEachLength, IsNoLess}

-- there is a least length by some crossing, and on
least_by_crossing : (on : Class → ℕ → Type 0) (spacing : ℕ) (least : Class → Option ℕ) → ((class : Class) → IsLeastOf (on class) (least class))
    → (class : Class) → (found : Option ℕ) × IsLeastOf (Across on spacing class) found
least_by_crossing on spacing least are class = (
  least_by_cross spacing
      (record { uu1 = least UU1; e01 = least E01; ze1 = least ZE1; ee1 = least EE1; ee2 = least EE2; z00 = least Z00; z01 = least Z01 }) class,
  least_crosses on spacing
      (record { uu1 = least UU1; e01 = least E01; ze1 = least ZE1; ee1 = least EE1; ee2 = least EE2; z00 = least Z00; z01 = least Z01 }) class go,
)
  where
    go : (next : Class) → IsLeastOf (on next)
        (length_at (record { uu1 = least UU1; e01 = least E01; ze1 = least ZE1; ee1 = least EE1; ee2 = least EE2; z00 = least Z00; z01 = least Z01 }) next)
    go UU1 = are UU1
    go E01 = are E01
    go ZE1 = are ZE1
    go EE1 = are EE1
    go EE2 = are EE2
    go Z00 = are Z00
    go Z01 = are Z01

-- there is a least length at the end, where a tour may end there
least_at_end : (class : Class) → (least : Option ℕ) × IsLeastOf (λ t. IsTrue (is_whole class) × (t ≡ 0)) least
least_at_end class = go (is_whole class) refl
  where
    go : (whole : Bool) → is_whole class ≡ whole → (least : Option ℕ) × IsLeastOf (λ t. IsTrue (is_whole class) × (t ≡ 0)) least
    go true whole = (Some 0, ((whole, refl), λ t h. omega arith))
    go false not_whole = (None, λ t h. absurd (both_ways _ not_whole h.0))

-- there is a least length on from each class, or none
least_on : (block : Block) (left aisle : ℕ) (class : Class) → (least : Option ℕ) × IsLeastOf (λ t. Onward block left aisle class t) least
least_on block zero aisle class = least_at_end class
least_on block (suc left) aisle class =
    let on : Class → ℕ → Type 0 = λ next rest. Onward block left (suc aisle) next rest in
    let after = least_on block left (suc aisle) in
    let ways = block.ways (suc aisle) in
    least_by_crossing (λ between rest. Through on ways between rest) (block.spacing aisle) (λ between. by_some_way ways (λ next. (after next).0) between)
    (λ between. least_by_some on ways (λ next. (after next).0) (λ next. (after next).1) between) class

-- there is a least length from the first aisle on
least_at_first : (block : Block) (left : ℕ) → (total : ℕ) × IsLeastFirst block left (Some total)
least_at_first block left = go (by_some_way (block.ways 1) (λ next. (on next).0) Z00) (record {
  is = least_by_some (λ next rest. Onward block left 1 next rest) (block.ways 1) (λ next. (on next).0) (λ next. (on next).1) Z00;
})
  where
    on : (class : Class) → (least : Option ℕ) × IsLeastOf (λ t. Onward block left 1 class t) least
    on = least_on block left 1

    go : (least : Option ℕ) → IsLeastFirst block left least → (total : ℕ) × IsLeastFirst block left (Some total)
    go None is = absurd (false≢true (some_way_on block left None is))
    go (Some total) is = (total, is)

-- there is a shortest tour past slots of a layout
pub has_shortest : (layout : Layout) (picks : List Point) → AreSlots layout picks → (total : ℕ) × IsShortest layout picks total
has_shortest layout picks slots =
    let least = least_at_first (block_of layout picks) (layout.aisles - 1) in
    (least.0, shortest layout picks least.0 slots (least_route layout picks least.0 least.1))

-- where all orders pick at slots of the layout, each batch has a length
pub each_has_length : (wave : WavePicks) → 0 < length wave.orders
    → ((order : ℕ) → order < length wave.orders → AreSlots wave.layout (picks_of wave order)) → HasEachLength wave
each_has_length wave some slots batch known = has_shortest wave.layout (batch_picks wave batch) (record {
  ranges = (slots 0 some).ranges;
  slots = λ p has.
      let source = flat_map_source (picks_of wave) batch p (among_from_Contains _ p has) in
      let order = All-contains (λ order. order < length wave.orders) batch source.0 known (Contains-from_among batch source.0 source.1) in
      (slots source.0 order).slots p (Contains-from_among _ p source.2);
})

-- what the length of a batch is no less than, the length of one with more orders is no less than either
pub no_less_with_more : (wave : WavePicks) (fewer more : List ℕ) (orders known : ℕ) → HasEachLength wave → orders ≡ length wave.orders
    → All (λ order. order < orders) fewer → ((order : ℕ) → Contains fewer order → Contains more order) → IsNoLess wave fewer known → IsNoLess wave more known
no_less_with_more wave fewer more orders known each count below within least total is =
    let own = each fewer (subst (λ (n : ℕ). All (λ order. order < n) fewer) count below) in
    omega (arith, least own.0 own.1, more_orders_no_shorter wave fewer more own.0 total within own.1 is)
