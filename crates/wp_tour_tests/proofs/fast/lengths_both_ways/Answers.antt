use Rattle.std.proofs.Common.{ℕ, ◌^◌, List, arith, lit≤}
use Rattle.wp_model.specs.declared.point.Point.{Point}
use Rattle.wp_model.specs.Warehouse.{IsLayout, Layout}
use Rattle.wp_fast.specs.declared.summary.Summary.{Summary}
use Rattle.wp_fast.specs.Passages.{AreLeast, IsComposed, Then}
use Rattle.wp_fast.specs.Runs.{PastAisle}
use Rattle.wp_fast.specs.Summaries.{AreBelow}
use Rattle.wp_fast.proofs.Composing.{composed_least}
use Rattle.wp_fast.proofs.SmallPassages.{least_up_to, past_aisle_small, up_to_below}
use Rattle.wp_tour_tests.proofs.fast.lengths_both_ways.Goals as goal

aisle_below : (layout : Layout) (picks : List Point) (aisle : ℕ) (summary : Summary) → IsLayout layout → AreLeast (PastAisle layout picks aisle) summary
    → AreBelow (2 ^ 62) summary
aisle_below layout picks aisle summary valid are =
    up_to_below 4060000 (2 ^ 62) summary (lit≤ tt)
    (least_up_to (PastAisle layout picks aisle) summary 4060000 are (past_aisle_small layout picks aisle valid))

aisles_below : (layout : Layout) (picks : List Point) (one other : ℕ) (first next both : Summary) → IsLayout layout
    → AreLeast (PastAisle layout picks one) first
    → AreLeast (PastAisle layout picks other) next → IsComposed first next both → AreBelow (2 ^ 62) both
aisles_below layout picks one other first next both valid near far composed =
    up_to_below 8120000 (2 ^ 62) both (lit≤ tt)
    (least_up_to (Then (PastAisle layout picks one) (PastAisle layout picks other)) both 8120000
    (composed_least (PastAisle layout picks one) (PastAisle layout picks other) first next both near far composed)
    (λ before after t h. let left = past_aisle_small layout picks one valid before h.0 h.1.0 h.1.2 in
    let right = past_aisle_small layout picks other valid h.0 after h.1.1 h.1.3 in omega (arith, left, right, h.1.4)))

pub compose-front-requires-clause-first : goal.compose-front-requires-clause-first
compose-front-requires-clause-first c = aisle_below _ _ 1 _ c.past_aisle-one.ensures.valid c.past_aisle-one.ensures.least

pub compose-front-requires-clause-next : goal.compose-front-requires-clause-next
compose-front-requires-clause-next c = aisle_below _ _ 2 _ c.past_aisle-two.ensures.valid c.past_aisle-two.ensures.least

pub compose-rest-requires-clause-first : goal.compose-rest-requires-clause-first
compose-rest-requires-clause-first c = aisle_below _ _ 2 _ c.past_aisle-two.ensures.valid c.past_aisle-two.ensures.least

pub compose-rest-requires-clause-next : goal.compose-rest-requires-clause-next
compose-rest-requires-clause-next c = aisle_below _ _ 3 _ c.past_aisle-three.ensures.valid c.past_aisle-three.ensures.least

pub compose-requires-clause-first : goal.compose-requires-clause-first
compose-requires-clause-first c =
    aisles_below _ _ 1 2 _ _ _ c.past_aisle-one.ensures.valid c.past_aisle-one.ensures.least c.past_aisle-two.ensures.least c.compose-front.ensures

pub compose-requires-clause-next : goal.compose-requires-clause-next
compose-requires-clause-next c = aisle_below _ _ 3 _ c.past_aisle-three.ensures.valid c.past_aisle-three.ensures.least

pub compose-requires-2-clause-first : goal.compose-requires-2-clause-first
compose-requires-2-clause-first c = aisle_below _ _ 1 _ c.past_aisle-one.ensures.valid c.past_aisle-one.ensures.least

pub compose-requires-2-clause-next : goal.compose-requires-2-clause-next
compose-requires-2-clause-next c =
    aisles_below _ _ 2 3 _ _ _ c.past_aisle-two.ensures.valid c.past_aisle-two.ensures.least c.past_aisle-three.ensures.least c.compose-rest.ensures
