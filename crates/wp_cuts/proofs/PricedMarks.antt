-- Marks over prices are sound: prices whose marks pass are feasible. A batch that isn't entered stands for all that have more orders after it,
-- since these have no shorter tours, no more in duals than the reach, and meet no cut fewer times.
use Rattle.std.proofs.Common.{ℕ, ◌+◌, ◌*◌, ◌<◌, ◌≤◌, Bool, List, [], ◌∷◌, arith, sym, subst, inl, inr, ⊎_elim, Contains}
use Rattle.std.specs.Prelude.{slice_index}
use Rattle.std.specs.List.Sorted.{IsStrictlyIncreasing}
use Rattle.std.proofs.lemmas.List.Elements.{All-contains}
use Rattle.wp_pairs.specs.Permitted.{IsPermitted, Pairing}
use Rattle.wp_pairs.proofs.Members.{contains_none}
use Rattle.wp_lengths.specs.Lengths.{IsLengthOf}
use Rattle.wp_lengths.specs.Waves.{WavePicks}
use Rattle.wp_lengths.specs.Visits.{AreFurther, Children, Due, IsLater, IsReach, Passed, Place}
use Rattle.wp_lengths.proofs.Unions.{all_from_contained}
use Rattle.wp_lengths.proofs.Ascending.{split_off}
use Rattle.wp_lengths.proofs.FewerOrders.{more_orders_no_shorter}
use Rattle.wp_lengths.proofs.Visits.{Extends, IsPlace, empty_place, permitted_place}
use Rattle.wp_visit.proofs.Extensions.{past_no_child, past_same, with_or_after}
use Rattle.wp_cuts.specs.Cuts.{CutParts, times_met}
use Rattle.wp_cuts.specs.Prices.{NodePrices, PaysAtMost, taken_off}
use Rattle.wp_cuts.specs.PricedVisits.{IsPaid, IsPricedVisit, MarksShowPricesFeasible, ReachesAtMost, all_added, entered, no_item, not_permitted, onward}
use Rattle.wp_cuts.specs.PricedVisits.{pruned}
use Rattle.wp_cuts.proofs.MetCuts.{further_meet_no_less}

-- no less is taken off where there are further orders
pub taken_off_grows : (cuts : List CutParts) (prices some all : List ℕ) → IsStrictlyIncreasing some → IsStrictlyIncreasing all
    → ((order : ℕ) → Contains some order → Contains all order) → taken_off cuts prices some ≤ taken_off cuts prices all
taken_off_grows [] prices some all up down within = omega arith
taken_off_grows (cut ∷ cuts) [] some all up down within = omega arith
taken_off_grows (cut ∷ cuts) (price ∷ prices) some all up down within =
    let rest = taken_off_grows cuts prices some all up down within in
    let more = scaled price (times_met cut some) (times_met cut all) (further_meet_no_less cut some all up down within) in
    omega (arith, rest, more)
  where
    scaled : (p a b : ℕ) → a ≤ b → p * a ≤ p * b
    scaled p a b low = grind (arith, low)

module _ (wave : WavePicks) (pairing : Pairing) (cuts : List CutParts) (prices : NodePrices) where
  -- all batches that extend a place pay no more than their lengths, where with its reach it isn't too much
  reach_pays : (place batch : List ℕ) (from total reach long : ℕ) → IsPlace pairing place → Extends pairing place from batch → IsLengthOf wave place total
      → IsReach pairing prices.duals place from reach → ReachesAtMost cuts prices place reach (60 * total) → IsLengthOf wave batch long
      → PaysAtMost cuts prices batch (60 * long)
  reach_pays place batch from total reach long is extends alone reaches within length_is =
      let s = split_off (slice_index prices.duals) place batch is.ascending extends.permitted.ascending extends.holds in
      let further : AreFurther pairing place from s.rest = record {
        ascending = s.ascending;
        fits = omega (arith, s.counts, extends.permitted.fits);
        later = all_from_contained (IsLater pairing from) s.rest (λ x has. extends.later x (s.of_whole x has) (s.not_of_part x has));
      } in
      omega (
        arith,
        s.sums,
        reaches.most s.rest further,
        within,
        more_orders_no_shorter wave place batch total long extends.holds alone length_is,
        taken_off_grows cuts prices.cuts place batch is.ascending extends.permitted.ascending extends.holds,
      )

  -- a batch that has no further order is its place, and pays no more
  place_pays : (place batch : List ℕ) (from long : ℕ) → IsPlace pairing place → pairing.orders ≤ from → Extends pairing place from batch
      → IsPaid wave cuts prices place → IsLengthOf wave batch long → PaysAtMost cuts prices batch (60 * long)
  place_pays place batch from long is past extends paid length_is =
      let same = past_same pairing place batch from is past extends in
      let at = subst (λ (b : List ℕ). IsPaid wave cuts prices b) (sym same) paid extends.permitted.filled in
      omega (arith, at.2, more_orders_no_shorter wave batch batch at.0 long (λ order has. has) at.1 length_is)

  -- what a visit that passes says of all batches that extend its place
  abbrev SaysPaid : Due → Type 0
  SaysPaid (Place place from) = (batch : List ℕ) (long : ℕ) → IsPlace pairing place → Extends pairing place from batch
      → IsLengthOf wave batch long → PaysAtMost cuts prices batch (60 * long)
  SaysPaid (Children place from) = (batch : List ℕ) (long : ℕ) → IsPlace pairing place → IsPaid wave cuts prices place
      → Extends pairing place from batch → IsLengthOf wave batch long → PaysAtMost cuts prices batch (60 * long)

  -- a visit that passes says so
  visit_pays : (due : Due) (marks left : List Bool) → IsPricedVisit wave pairing cuts prices due marks (Passed left) → SaysPaid due
  visit_pays _ _ _ (pruned {place} {from} {total} {reach} alone reaches within) = λ batch long is extends length_is.
      reach_pays place batch from total reach long is extends alone reaches within length_is
  visit_pays _ _ left (entered {place} {from} {marks} paid children) = λ batch long is extends length_is.
      visit_pays (Children place from) marks left children batch long is paid extends length_is
  visit_pays _ _ _ (all_added {place} {from} past) = λ batch long is paid extends length_is.
      place_pays place batch from long is past extends paid length_is
  visit_pays _ marks left (no_item {place} {from} none rest) = λ batch long is paid extends length_is.
      visit_pays (Children place (from + 1)) marks left rest batch long is paid
      (past_no_child pairing place batch from is (inr (inl none)) extends) length_is
  visit_pays _ marks left (not_permitted {place} {batch = union} {from} adds never rest) = λ batch long is paid extends length_is.
      visit_pays (Children place (from + 1)) marks left rest batch long is paid
      (past_no_child pairing place batch from is (inr (inr (union, adds, never))) extends) length_is
  visit_pays _ marks left (onward {place} {batch = union} {from} {left = between} item adds permitted first rest) = λ batch long is paid extends length_is.
      ⊎_elim
      (λ (with_item : Extends pairing union (from + 1) batch). visit_pays (Place union (from + 1)) marks between first batch long
      (permitted_place pairing union permitted) with_item length_is)
      (λ (after : Extends pairing place (from + 1) batch). visit_pays (Children place (from + 1)) between left rest batch long is paid after length_is)
      (with_or_after pairing place union batch from adds extends)

-- each permitted batch is an extension of the empty place
extends_none : (pairing : Pairing) (batch : List ℕ) → IsPermitted pairing batch → Extends pairing [] 0 batch
extends_none pairing batch permitted = record {
  permitted = permitted;
  holds = λ order has. absurd (contains_none order has);
  later = λ order has none. record { known = All-contains (λ x. x < pairing.orders) batch order permitted.known has; later = λ other joined. omega arith };
}

-- prices whose marks pass are feasible
pub marks_show_feasible : MarksShowPricesFeasible
marks_show_feasible = λ wave pairing cuts prices marks left visit batch total permitted length_is.
    visit_pays wave pairing cuts prices (Place [] 0) marks left visit batch total (empty_place pairing) (extends_none pairing batch permitted) length_is
