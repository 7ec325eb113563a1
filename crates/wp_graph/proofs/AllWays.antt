-- One aisle after another, the pieces of all aisles of a tour are replaced by those of ways.
use Rattle.std.proofs.Common.{◌≡◌, ◌≢◌, ℕ, zero, suc, ◌*◌, ◌<◌, ◌≤◌, List, arith, sym, ap, ◌∙◌, subst, ⊎_elim}
use Rattle.std.proofs.lemmas.Bool.{cases_eq}
use Rattle.wp_model.proofs.Sums.{sum-agree, sum-le}
use Rattle.wp_model.specs.declared.point.Point.{Point}
use Rattle.wp_graph.specs.AisleLengths.{site_ways}
use Rattle.wp_graph.specs.Copies.{Copies, aisle_walked, all_walked}
use Rattle.wp_graph.specs.Sites.{IsOnSite, Site, last_place}
use Rattle.wp_graph.specs.TourCopies.{AreFew, AreTour, IsOnTour}
use Rattle.wp_graph.proofs.OneWay.{IsWayLength, aisle_becomes_a_way}
use Rattle.wp_graph.proofs.AislePieces.{deep_else, deep_here, in_aisle}

-- one of the six ways applies in an aisle, and what is walked of the aisle is as long
pub record IsWalkedByWay (site : Site) (picks : List Point) (copies : Copies) (aisle : ℕ) : Type 0 where
  pub length : ℕ
  pub applies : IsWayLength (site_ways site picks aisle) length
  pub walked : aisle_walked site copies aisle ≡ length

-- the copies of a tour that walks so many aisles by ways and no piece three times, and is no longer
pub record ByWays (site : Site) (picks : List Point) (aisles most : ℕ) : Type 1 where
  pub copies : Copies
  pub are : AreTour site picks copies
  pub few : AreFew copies
  pub each : (a : ℕ) → a < aisles → IsWalkedByWay site picks copies (suc a)
  pub least : all_walked site copies ≤ most

-- other aisles stay as long
others_walked : (site : Site) (copies : Copies) (aisle : ℕ) (pieces : ℕ → ℕ) (a : ℕ) → a ≢ aisle
    → aisle_walked site (in_aisle copies aisle pieces) a ≡ aisle_walked site copies a
others_walked site copies aisle pieces a other = sum-agree (last_place site) _ _ (λ s low. ap (λ n. n * site.step s) (deep_else copies aisle pieces a s other))

all_no_longer : (site : Site) (copies : Copies) (aisle : ℕ) (pieces : ℕ → ℕ)
    → aisle_walked site (in_aisle copies aisle pieces) aisle ≤ aisle_walked site copies aisle
    → all_walked site (in_aisle copies aisle pieces) ≤ all_walked site copies
all_no_longer site copies aisle pieces least = sum-le site.aisles _ _ (λ k within.
    let each : aisle_walked site (in_aisle copies aisle pieces) (suc k) ≤ aisle_walked site copies (suc k) = ⊎_elim
    (λ e. subst (λ a. aisle_walked site (in_aisle copies aisle pieces) a ≤ aisle_walked site copies a) (sym e) least)
    (λ other. omega (arith, others_walked site copies aisle pieces (suc k) other))
    (cases_eq (suc k) aisle) in
    omega (arith, each))

few_still : (copies : Copies) (aisle : ℕ) (pieces : ℕ → ℕ) → AreFew copies → ((s : ℕ) → pieces s ≤ 2) → AreFew (in_aisle copies aisle pieces)
few_still copies aisle pieces few at_most = record {
  deep = λ a s. ⊎_elim
      (λ e. subst (λ b. (in_aisle copies aisle pieces).deep b s ≤ 2) (sym e) (omega (arith, deep_here copies aisle pieces s, at_most s)))
      (λ other. omega (arith, deep_else copies aisle pieces a s other, few.deep a s))
      (cases_eq a aisle);
  behind = few.behind;
  front = few.front;
}

one_more : (site : Site) (picks : List Point) (n most : ℕ) → ((p : Point) → IsOnTour site picks p → IsOnSite site p) → ByWays site picks n most
    → ByWays site picks (suc n) most
one_more site picks n most within by =
    let next = aisle_becomes_a_way site picks by.copies n within by.are in
    record {
      copies = in_aisle by.copies (suc n) next.pieces;
      are = next.stays;
      few = few_still by.copies (suc n) next.pieces by.few next.few;
      each = λ a low. ⊎_elim
          (λ e. subst (λ b. IsWalkedByWay site picks (in_aisle by.copies (suc n) next.pieces) (suc b)) (sym e)
          (record { length = next.length; applies = next.applies; walked = next.length_is }))
          (λ (other : a ≢ n).
          let before = by.each a (omega (arith, low, other)) in
          record {
            length = before.length;
            applies = before.applies;
            walked = others_walked site by.copies (suc n) next.pieces (suc a) (λ e. other (omega (arith, e))) ∙ before.walked;
          })
          (cases_eq a n);
      least = omega (arith, by.least, all_no_longer site by.copies (suc n) next.pieces (omega (arith, next.length_is, next.least)));
    }

so_many : (site : Site) (picks : List Point) (copies : Copies) (n : ℕ) → ((p : Point) → IsOnTour site picks p → IsOnSite site p) → AreTour site picks copies
    → AreFew copies → ByWays site picks n (all_walked site copies)
so_many site picks copies zero within are few = record { copies = copies; are = are; few = few; each = λ a low. absurd (omega arith); least = omega arith }
so_many site picks copies (suc n) within are few = one_more site picks n (all_walked site copies) within (so_many site picks copies n within are few)

-- what a tour walks can be replaced, aisle by aisle, by ways that apply: it stays a tour, and gets no longer
pub all_aisles_become_ways : (site : Site) (picks : List Point) (copies : Copies) → ((p : Point) → IsOnTour site picks p → IsOnSite site p)
    → AreTour site picks copies → AreFew copies → ByWays site picks site.aisles (all_walked site copies)
all_aisles_become_ways site picks copies within are few = so_many site picks copies site.aisles within are few
