-- Lengths of batches: more orders never have a shorter tour.
use Rattle.std.proofs.Common.{◌≡◌, ℕ, ◌≤◌, List, arith, Contains}
use Rattle.std.proofs.lemmas.List.Elements.{All-contains}
use Rattle.wp_model.specs.declared.point.Point.{Point}
use Rattle.wp_model.specs.Tours.{IsShortest, IsTour}
use Rattle.wp_model.specs.Warehouse.{Layout}
use Rattle.wp_graph.proofs.Members.{Contains-from_among, among-flat_map, among_from_Contains, flat_map_source}
use Rattle.wp_lengths.specs.Lengths.{IsLengthOf, batch_picks}
use Rattle.wp_lengths.specs.Waves.{WavePicks, picks_of}
use Rattle.wp_lengths.proofs.Unions.{all_from_contained}

-- a tour past some picks is one past fewer picks too
pub tour_of_fewer : (layout : Layout) (fewer more points : List Point) (total : ℕ) → ((p : Point) → Contains fewer p → Contains more p)
    → IsTour layout more points total → IsTour layout fewer points total
tour_of_fewer layout fewer more points total within tour = record {
  closed = tour.closed;
  serves = all_from_contained (Contains points) fewer (λ p has. All-contains (Contains points) more p tour.serves (within p has));
}

-- a larger set of picks has no shorter tour
pub no_shorter : (layout : Layout) (fewer more : List Point) (short long : ℕ) → ((p : Point) → Contains fewer p → Contains more p)
    → IsShortest layout fewer short → IsShortest layout more long → short ≤ long
no_shorter layout fewer more short long within one other =
    one.least other.some.0 long (tour_of_fewer layout fewer more other.some.0 long within other.some.1)

-- what a batch picks is picked by a batch that has all its orders
pub picked_by_more : (wave : WavePicks) (fewer more : List ℕ) → ((order : ℕ) → Contains fewer order → Contains more order) → (p : Point)
    → Contains (batch_picks wave fewer) p → Contains (batch_picks wave more) p
picked_by_more wave fewer more within p has =
    let source = flat_map_source (picks_of wave) fewer p (among_from_Contains _ p has) in
    Contains-from_among _ p (among-flat_map (picks_of wave) more source.0 p
    (among_from_Contains more source.0 (within source.0 (Contains-from_among fewer source.0 source.1))) source.2)

-- a batch with more orders is no shorter
pub more_orders_no_shorter : (wave : WavePicks) (fewer more : List ℕ) (short long : ℕ) → ((order : ℕ) → Contains fewer order → Contains more order)
    → IsLengthOf wave fewer short → IsLengthOf wave more long → short ≤ long
more_orders_no_shorter wave fewer more short long within one other =
    no_shorter wave.layout (batch_picks wave fewer) (batch_picks wave more) short long (picked_by_more wave fewer more within) one other

-- orders that are the same have one length
pub same_length : (wave : WavePicks) (batch : List ℕ) (one other : ℕ) → IsLengthOf wave batch one → IsLengthOf wave batch other → one ≡ other
same_length wave batch one other first second =
    omega (arith, first.least second.some.0 other second.some.1, second.least first.some.0 one first.some.1)
