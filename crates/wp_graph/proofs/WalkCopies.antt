-- A tour as the copies of its pieces: all degrees are even, all hangs together with the depot and passes the picks,
-- and the lengths of the copies sum to the walk's.
use Rattle.std.proofs.Common.{◌≡◌, ℕ, suc, ◌-◌, List, [], ◌∷◌, Some, None, length, slice_get, arith, refl, sym, ap, ◌∙◌, subst, inl, ⊎_elim}
use Rattle.std.proofs.lemmas.Option.{same_Some}
use Rattle.wp_model.specs.declared.point.Point.{Point}
use Rattle.wp_model.specs.Tours.{IsTour}
use Rattle.wp_model.specs.Warehouse.{Layout, depot_point}
use Rattle.wp_graph.specs.Copies.{all_walked, copies_of}
use Rattle.wp_graph.specs.Sites.{site_of}
use Rattle.wp_graph.specs.Members.{Among}
use Rattle.wp_graph.specs.TourCopies.{AreTour, IsOnTour}
use Rattle.wp_graph.proofs.Circuits.{closed_even, last_point}
use Rattle.wp_graph.proofs.Colourings.{walk_joined}
use Rattle.wp_graph.proofs.WalkLengths.{walk_walked}
use Rattle.wp_graph.proofs.Members.{Contains-from_among, among_from_Contains}

last_point_is : (p : Point) (points : List Point) → slice_get (p ∷ points) (length (p ∷ points) - 1) ≡ Some (last_point p points)
last_point_is p [] = refl
last_point_is p (q ∷ points) =
    let back : length (p ∷ q ∷ points) - 1 ≡ suc (length (q ∷ points) - 1) = omega arith in
    ap (λ i. slice_get (p ∷ q ∷ points) i) back ∙ last_point_is q points

from_depot : (layout : Layout) (picks rest : List Point) (total : ℕ) → IsTour layout picks (depot_point layout ∷ rest) total
    → AreTour (site_of layout) picks (copies_of layout (depot_point layout ∷ rest))
from_depot layout picks rest total tour =
    let depot = depot_point layout in
    let closes : last_point depot rest ≡ depot = same_Some _ _ (sym (last_point_is depot rest) ∙ tour.closed.ends) in
    record {
      even = closed_even layout depot rest total closes tour.closed.goes;
      joined = walk_joined layout (IsOnTour (site_of layout) picks) depot rest total (λ x on. ⊎_elim (λ e. inl e)
          (λ h. let c = Contains-from_among picks x h in subst (λ (p : Point). Among (depot ∷ rest) p) c.2
          (among_from_Contains (depot ∷ rest) _ (tour.serves c.0 x c.1)))
          on) tour.closed.goes;
    }

-- the copies of a tour's pieces are those of a tour of the picks, and their lengths sum to the tour's
pub tour_is_its_copies : (layout : Layout) (picks points : List Point) (total : ℕ) → IsTour layout picks points total
    → AreTour (site_of layout) picks (copies_of layout points) × (all_walked (site_of layout) (copies_of layout points) ≡ total)
tour_is_its_copies layout picks [] total tour = absurd (none tour.closed.begins)
  where
    none : None ≡ Some (depot_point layout) → ⊥
    none e = cc
tour_is_its_copies layout picks (p ∷ rest) total tour =
    let first : p ≡ depot_point layout = same_Some _ _ tour.closed.begins in (
      subst (λ (q : Point). AreTour (site_of layout) picks (copies_of layout (q ∷ rest))) (sym first)
          (from_depot layout picks rest total (subst (λ (q : Point). IsTour layout picks (q ∷ rest) total) first tour)),
      walk_walked layout (p ∷ rest) total tour.closed.goes,
    )
