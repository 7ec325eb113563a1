-- The pieces of one aisle can be replaced by those of one of the six ways: what is walked stays a tour, and gets no
-- longer.
use Rattle.std.proofs.Common.{◌≡◌, ℕ, suc, ◌+◌, ◌*◌, ◌%◌, ◌<◌, ◌≤◌, ◌&&◌, ◌||◌, nat_le, nat_lt, Bool, true, false, List, Some, if◌then◌else◌, arith, refl, sym}
use Rattle.std.proofs.Common.{ap, ◌∙◌, ◌⊎◌, inl, inr}
use Rattle.wp_model.specs.declared.point.Point.{Point}
use Rattle.wp_graph.specs.declared.ways.AisleWays.{AisleWays}
use Rattle.wp_graph.specs.AisleLengths.{site_ways}
use Rattle.wp_graph.specs.Copies.{Copies, aisle_walked}
use Rattle.wp_graph.specs.Required.{site_places}
use Rattle.wp_graph.specs.Sites.{IsOnSite, Site, last_place, site_distance}
use Rattle.wp_graph.specs.TourCopies.{AreTour, IsOnTour}
use Rattle.wp_graph.specs.Cuts.{HasCut, IsCut, Turning}
use Rattle.wp_graph.specs.Cuts.IsCut.{skips, fronts, backs, gaps}
use Rattle.wp_graph.proofs.EachAisle.{even_aisle, odd_aisle}
use Rattle.wp_graph.proofs.AislePieces.{in_aisle, pieces_walked, replaced_even, replaced_joined}
use Rattle.wp_graph.proofs.WayPieces.{passing, passing_in, passing_sum, turning, turning_sum}
use Rattle.wp_graph.proofs.WayColours.{passing_told, turning_told}

-- one of the six ways applies, with this length
pub data IsWayLength (ways : AisleWays) (length : ℕ) : Type 0 where
  by_pass : ways.pass ≡ length → IsWayLength ways length
  by_back : ways.back ≡ Some length → IsWayLength ways length
  by_front : ways.front ≡ Some length → IsWayLength ways length
  by_gap : ways.gap ≡ Some length → IsWayLength ways length
  by_double : ways.double ≡ length → IsWayLength ways length
  by_skip : ways.skip ≡ Some length → IsWayLength ways length

-- pieces of one of the six ways, which applies and is no longer than what is walked of the aisle: with them what is
-- walked stays a tour
pub record BecomesWay (site : Site) (picks : List Point) (copies : Copies) (aisle : ℕ) : Type 1 where
  pub pieces : ℕ → ℕ
  pub length : ℕ
  pub applies : IsWayLength (site_ways site picks aisle) length
  pub length_is : aisle_walked site (in_aisle copies aisle pieces) aisle ≡ length
  pub least : length ≤ aisle_walked site copies aisle
  pub few : (s : ℕ) → pieces s ≤ 2
  pub stays : AreTour site picks (in_aisle copies aisle pieces)

passing_way : (site : Site) (picks : List Point) (copies : Copies) (aisle times : ℕ) → ((p : Point) → IsOnTour site picks p → IsOnSite site p)
    → AreTour site picks copies → 0 < times → times ≤ 2 →
    ((s : ℕ) → s < last_place site → (0 < copies.deep aisle s) × (times % 2 ≡ copies.deep aisle s % 2))
    → IsWayLength (site_ways site picks aisle) (times * site_distance site (last_place site))
    → times * site_distance site (last_place site) ≤ aisle_walked site copies aisle → BecomesWay site picks copies aisle
passing_way site picks copies aisle times within are some most all applies least = record {
  pieces = passing (last_place site) times;
  length = times * site_distance site (last_place site);
  applies = applies;
  length_is = pieces_walked site copies aisle (passing (last_place site) times) ∙ passing_sum (last_place site) (last_place site) times site.step (omega arith);
  least = least;
  few = λ s. at_most s;
  stays = record {
    even = replaced_even site copies aisle (passing (last_place site) times)
        (λ s low. ap (λ n. n % 2) (passing_in (last_place site) times s low) ∙ (all s low).1) are.even;
    joined = replaced_joined site picks copies aisle (passing (last_place site) times) within
        (λ colour kept. passing_told site picks copies aisle times some (λ s low. (all s low).0) colour kept) are.joined;
  };
}
  where
    at_most : (s : ℕ) → passing (last_place site) times s ≤ 2
    at_most s = elim (nat_lt s (last_place site)) as (λ b. (if b then times else 0) ≤ 2) [ true ↦ most | false ↦ omega arith ]

turning_way : (site : Site) (picks : List Point) (copies : Copies) (aisle z y t : ℕ) → ((p : Point) → IsOnTour site picks p → IsOnSite site p)
    → AreTour site picks copies → z ≤ y → y < last_place site → copies.deep aisle z ≡ 0 → copies.deep aisle y ≡ 0 →
    ((s : ℕ) → s < last_place site → copies.deep aisle s % 2 ≡ 0) → Turning (site_distance site) (last_place site) (site_places site picks aisle) z y t
    → IsWayLength (site_ways site picks aisle) t → t ≤ aisle_walked site copies aisle → BecomesWay site picks copies aisle
turning_way site picks copies aisle z y t within are order inside low high even turn applies least = record {
  pieces = turning (last_place site) turn.near turn.far;
  length = t;
  applies = applies;
  length_is = pieces_walked site copies aisle (turning (last_place site) turn.near turn.far)
      ∙ turning_sum (last_place site) turn.near turn.far site.step turn.ordered turn.within ∙ sym turn.length_is;
  least = least;
  few = λ s. at_most (nat_lt s turn.near || (nat_le turn.far s && nat_lt s (last_place site)));
  stays = record {
    even = replaced_even site copies aisle (turning (last_place site) turn.near turn.far)
        (λ s upto. two_even (nat_lt s turn.near || (nat_le turn.far s && nat_lt s (last_place site))) ∙ sym (even s upto)) are.even;
    joined = replaced_joined site picks copies aisle (turning (last_place site) turn.near turn.far) within
        (λ colour kept. turning_told site picks copies aisle z y t turn order inside low high colour kept) are.joined;
  };
}
  where
    at_most : (b : Bool) → (if b then 2 else 0) ≤ 2
    at_most true = omega arith
    at_most false = omega arith

    two_even : (b : Bool) → (if b then 2 else 0) % 2 ≡ 0
    two_even true = omega arith
    two_even false = omega arith

cut_becomes : (site : Site) (picks : List Point) (copies : Copies) (a : ℕ) → ((p : Point) → IsOnTour site picks p → IsOnSite site p)
    → AreTour site picks copies → (copies.front a + copies.front (suc a)) % 2 ≡ 0 → (cut : HasCut site picks copies (suc a)) →
    IsCut (site_ways site picks (suc a)) (site_distance site) (last_place site) (site_places site picks (suc a)) cut.gap cut.beyond cut.most
    → BecomesWay site picks copies (suc a)
cut_becomes site picks copies a within are even cut by = go by
  where
    turned : (t : ℕ) → Turning (site_distance site) (last_place site) (site_places site picks (suc a)) cut.gap cut.beyond t
        → IsWayLength (site_ways site picks (suc a)) t → t ≤ cut.most → BecomesWay site picks copies (suc a)
    turned t turn applies short = turning_way site picks copies (suc a) cut.gap cut.beyond t within are cut.ordered cut.within cut.none cut.none_beyond
        (λ s low. omega (arith, even, are.even.through a s low)) turn applies (omega (arith, short, cut.least))

    go : IsCut (site_ways site picks (suc a)) (site_distance site) (last_place site) (site_places site picks (suc a)) cut.gap cut.beyond cut.most
        → BecomesWay site picks copies (suc a)
    go (skips none applies turn) = turned 0 turn (by_skip applies) (omega arith)
    go (fronts t x applies short on low all turn) = turned t turn (by_front applies) short
    go (backs t x applies short on high all turn) = turned t turn (by_back applies) short
    go (gaps t x r applies short on low on' high turn) = turned t turn (by_gap applies) short

pass_applies : (site : Site) (picks : List Point) (aisle : ℕ) → IsWayLength (site_ways site picks aisle) (1 * site_distance site (last_place site))
unfolding site_ways
pass_applies site picks aisle = by_pass (omega arith)

double_applies : (site : Site) (picks : List Point) (aisle : ℕ) → IsWayLength (site_ways site picks aisle) (2 * site_distance site (last_place site))
unfolding site_ways
double_applies site picks aisle = by_double refl

-- The pieces of an aisle are all odd or all even, and can be replaced by those of one of the six ways that applies
-- and is no longer: all degrees are even still, and all that is walked hangs together with the depot and passes the
-- picks.
pub aisle_becomes_a_way : (site : Site) (picks : List Point) (copies : Copies) (a : ℕ) → ((p : Point) → IsOnTour site picks p → IsOnSite site p)
    → AreTour site picks copies → BecomesWay site picks copies (suc a)
unfolding site_ways
aisle_becomes_a_way site picks copies a within are = elim (two_cases (copies.front a + copies.front (suc a))) [
  | inr odd ↦ passing_way site picks copies (suc a) 1 within are (omega arith) (omega arith)
      (λ s low. (omega (arith, odd, are.even.through a s low), omega (arith, odd, are.even.through a s low))) (pass_applies site picks (suc a))
      (let least = odd_aisle site picks copies a are odd in omega (arith, least))
  | inl even ↦ elim (even_aisle site picks copies a are even) [
    | inl full ↦ passing_way site picks copies (suc a) 2 within are (omega arith) (omega arith)
        (λ s low. (full.0 s low, omega (arith, even, are.even.through a s low))) (double_applies site picks (suc a)) full.1
    | inr cut ↦ cut_becomes site picks copies a within are even cut cut.cut
  ]
]
  where
    two_cases : (n : ℕ) → (n % 2 ≡ 0) ⊎ (n % 2 ≡ 1)
    two_cases n = grind arith
