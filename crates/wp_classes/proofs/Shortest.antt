-- No tour is shorter than the least route that the tables allow (Ratliff and Rosenthal, 1983).
use Rattle.std.proofs.Common.{◌≡◌, ℕ, ◌≤◌, ◌-◌, List, arith, subst, ⊎_elim}
use Rattle.wp_model.specs.declared.point.Point.{Point}
use Rattle.wp_model.specs.Tours.{IsShortest, IsTour}
use Rattle.wp_model.specs.Warehouse.{Layout, back_end, depot_point}
use Rattle.wp_graph.specs.Copies.{copies_of}
use Rattle.wp_graph.specs.PickSets.{AreSlots}
use Rattle.wp_graph.specs.Sites.{IsOnSite, site_of}
use Rattle.wp_graph.specs.Members.{Among}
use Rattle.wp_graph.specs.TourCopies.{IsOnTour}
use Rattle.wp_graph.proofs.AllWays.{all_aisles_become_ways}
use Rattle.wp_graph.proofs.Ends.{end_within}
use Rattle.wp_graph.proofs.DownByTwo.{all_go_down_to_two}
use Rattle.wp_graph.proofs.Members.{Contains-from_among}
use Rattle.wp_graph.proofs.WalkCopies.{tour_is_its_copies}
use Rattle.wp_classes.specs.Choices.{IsAllowed, IsLeastRoute, Route}
use Rattle.wp_classes.proofs.AisleByAisle.{route_within}
use Rattle.wp_classes.proofs.FitClasses.{Toured}
use Rattle.wp_classes.proofs.Rounds.{tour_of_route}

-- all that a tour passes lies in the layout
picks_within : (layout : Layout) (picks : List Point) → AreSlots layout picks → (p : Point) → IsOnTour (site_of layout) picks p → IsOnSite (site_of layout) p
picks_within layout picks are p on = ⊎_elim
    (λ (e : depot_point layout ≡ p). subst (λ (q : Point). IsOnSite (site_of layout) q) e
    (record { aisle = are.ranges.depot; slot = end_within (back_end layout) layout.end }))
    (λ (h : Among picks p). let slot = are.slots p (Contains-from_among picks p h) in record { aisle = slot.aisle; slot = omega (arith, slot.slot) })
    on

-- a route that the tables allow and that is no longer than a tour
pub record WithinTour (layout : Layout) (picks : List Point) (most : ℕ) : Type 0 where
  pub route : Route
  pub total : ℕ
  pub allowed : IsAllowed layout picks route total
  pub least : total ≤ most

-- for each tour there is a route that the tables allow and that is no longer
pub route_within_tour : (layout : Layout) (picks points : List Point) (total : ℕ) → AreSlots layout picks → IsTour layout picks points total
    → WithinTour layout picks total
route_within_tour layout picks points total slots tour =
    let walked = tour_is_its_copies layout picks points total tour in
    let fewer = all_go_down_to_two (site_of layout) picks (copies_of layout points) walked.0 in
    let ways = all_aisles_become_ways (site_of layout) picks fewer.copies (picks_within layout picks slots) fewer.are fewer.few in
    let t : Toured = record {
      site = site_of layout;
      picks = picks;
      copies = ways.copies;
      are = ways.are;
      few = ways.few;
      within = picks_within layout picks slots;
    } in
    let within = route_within t in
    record {
      route = within.route;
      total = within.total;
      allowed = record {
        class = within.class;
        comes = within.comes;
        whole = within.whole;
      };
      least = omega (arith, within.least, ways.least, fewer.least, walked.1);
    }

-- the least route is as long as a shortest tour
pub shortest : (layout : Layout) (picks : List Point) (total : ℕ) → AreSlots layout picks → IsLeastRoute layout picks total → IsShortest layout picks total
shortest layout picks total slots least = record {
  some = tour_of_route layout picks least.some.0 total slots least.some.1;
  least = λ points other tour. let within = route_within_tour layout picks points other slots tour in let up =
      least.least within.route within.total within.allowed in omega (arith, up, within.least);
}
