-- The ways through an aisle whose depot lies at the back, in the layout of the page on tours.
use Rattle.std.proofs.Common.{◌≡◌, ℕ, ◌==◌, ◌||◌, [], ◌∷◌, Some, None, if◌then◌else◌, refl}
use Rattle.wp_model.specs.declared.point.Point.{Point}
use Rattle.wp_graph.specs.declared.ways.AisleWays.{AisleWays}
use Rattle.wp_graph.specs.AisleLengths.{site_ways}
use Rattle.wp_graph.specs.Required.{has_point, site_places}
use Rattle.wp_graph.specs.Sites.{Site}
use Rattle.wp_model.specs.Warehouse.End.{at_back}

-- three aisles with four slots, pitch 2, clearance 1, lengths 5 and 20 from aisle to aisle, and the depot at the back
-- end of aisle 1
abbrev example : Site
example = record {
  aisles = 3;
  slots = 4;
  step = λ place. if place == 0 || place == 4 then 1 else 2;
  spacing = λ aisle. if aisle == 1 then 5 else 20;
  depot = 1;
  end = at_back;
}

abbrev at : ℕ → ℕ → Point
at aisle slot = record { aisle = aisle; slot = slot }

-- with a pick at its first slot, the depot's aisle is served from the back, or by the gap between them
pub first_slot_with_depot : site_ways example (at 1 1 ∷ []) 1 ≡
    (let ways : AisleWays = record { pass = 8; back = Some 14; front = None; gap = Some 2; double = 16; skip = None } in ways)
unfolding site_ways site_places has_point
first_slot_with_depot = refl

-- with no pick, the depot at the back end is served from the back at no length
pub depot_alone : site_ways example [] 1 ≡ (let ways : AisleWays = record { pass = 8; back = Some 0; front = None; gap = None; double = 16; skip = None } in
    ways)
unfolding site_ways site_places has_point
depot_alone = refl

-- in another aisle the picks at both ends count as any others
pub picks_at_both_ends : site_ways example (at 2 0 ∷ at 2 5 ∷ at 2 2 ∷ []) 2 ≡
    (let ways : AisleWays = record { pass = 8; back = Some 16; front = Some 16; gap = Some 6; double = 16; skip = None } in ways)
unfolding site_ways site_places has_point
picks_at_both_ends = refl
