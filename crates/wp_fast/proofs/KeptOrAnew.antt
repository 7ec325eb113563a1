-- Ways that are kept where further picks have no slot, and tours past the same picks.
use Rattle.std.proofs.Common.{ℕ, ◌↔◌, List, ◌++◌, Contains, All, get_or, ◌⊎◌, ⊎_elim, sym, ◌∙◌}
use Rattle.std.proofs.lemmas.List.Elements.{All-contains, Contains-append_cases, Contains-append_left, Contains-append_right, Contains-get_or}
use Rattle.wp_model.specs.declared.point.Point.{Point}
use Rattle.wp_model.specs.Tours.{IsShortest, IsTour}
use Rattle.wp_model.specs.Warehouse.{Layout}
use Rattle.wp_graph.specs.declared.ways.AisleWays.{AisleWays}
use Rattle.wp_fast.specs.KeptWays.{AreWaysElsewhere, AreWaysOfAll}
use Rattle.wp_fast.proofs.PickedAisles.{ways_kept}

-- ways that are kept are those with further picks too, but for the aisles in which there are any
pub kept_elsewhere : (layout : Layout) (old more union : List Point) (ways : List AisleWays)
    → ((p : Point) → Contains union p ↔ (Contains old p ⊎ Contains more p))
    → AreWaysOfAll layout old ways → AreWaysElsewhere layout union more ways
kept_elsewhere layout old more union ways both all aisle up none d = all aisle up d ∙ sym (ways_kept layout old more union aisle both none)

-- what holds of all that a list contains holds of all of it
all_from_contained : (P : Point → Type 0) (xs : List Point) → ((x : Point) → Contains xs x → P x) → All P xs
all_from_contained P xs each = λ k d within. each (get_or xs k d) (Contains-get_or xs k d within)

-- a tour past some picks is one past the same picks in another list
same_tour : (layout : Layout) (xs ys points : List Point) (total : ℕ) → ((p : Point) → Contains ys p → Contains xs p) → IsTour layout xs points total
    → IsTour layout ys points total
same_tour layout xs ys points total same tour = record {
  closed = tour.closed;
  serves = all_from_contained (Contains points) ys (λ p has. All-contains (Contains points) xs p tour.serves (same p has));
}

-- a shortest tour past some picks is a shortest one past the same picks in another list
pub same_shortest : (layout : Layout) (xs ys : List Point) (total : ℕ) → ((p : Point) → Contains xs p ↔ Contains ys p) → IsShortest layout xs total
    → IsShortest layout ys total
same_shortest layout xs ys total same shortest = record {
  some = (shortest.some.0, same_tour layout xs ys shortest.some.0 total (λ p. (same p).1) shortest.some.1);
  least = λ points other tour. shortest.least points other (same_tour layout ys xs points other (λ p. (same p).0) tour);
}

-- a shortest tour past a union is one past both lists of picks, one behind the other
pub shortest_past_both : (layout : Layout) (old more union : List Point) (total : ℕ) → ((p : Point) → Contains union p ↔ (Contains old p ⊎ Contains more p))
    → IsShortest layout union total → IsShortest layout (old ++ more) total
shortest_past_both layout old more union total both = same_shortest layout union (old ++ more) total
    (λ p. (
      λ has. ⊎_elim (λ before. Contains-append_left old more p before) (λ later. Contains-append_right old more p later) ((both p).0 has),
      λ has. (both p).1 (Contains-append_cases old more p has),
    ))
