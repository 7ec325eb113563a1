-- Marks are sound: duals whose marks pass are feasible. A batch that isn't entered stands for all that have more orders after it, since these have no shorter
-- tours, and no more in duals than the reach.
use Rattle.std.proofs.Common.{◌≡◌, ◌≢◌, ℕ, ◌+◌, ◌*◌, ◌<◌, ◌≤◌, Bool, List, [], arith, refl, ap, subst, inl, inr}
use Rattle.std.proofs.Common.{⊎_elim, Contains}
use Rattle.std.specs.Prelude.{sum_by, slice_index}
use Rattle.std.specs.List.Sorted.{IsStrictlyIncreasing}
use Rattle.std.proofs.lemmas.Bool.{cases_eq}
use Rattle.std.proofs.lemmas.List.Elements.{All-contains}
use Rattle.wp_pairs.specs.Permitted.{AreJoined, IsPermitted, Pairing, itself, onward as chain_onward}
use Rattle.wp_pairs.proofs.Chains.{joined_back, joined_on}
use Rattle.wp_pairs.proofs.Classes.{joined_in, no_longer, part_fits}
use Rattle.wp_pairs.proofs.KeptPairs.{in_or_not}
use Rattle.wp_pairs.proofs.Members.{contains_none}
use Rattle.wp_lengths.specs.Lengths.{IsLengthOf}
use Rattle.wp_lengths.specs.Waves.{WavePicks}
use Rattle.wp_lengths.proofs.Unions.{all_from_contained}
use Rattle.wp_lengths.specs.Duals.{AreFeasible, duals_of}
use Rattle.wp_lengths.specs.Visits.{AddsItem, AreFurther, Children, Due, IsItem, IsLater, IsReach, IsVisit, IsVisitOfAll, IsWithin, Passed, Place, all_added}
use Rattle.wp_lengths.specs.Visits.{entered, no_item, not_permitted, onward, pruned}
use Rattle.wp_lengths.proofs.Ascending.{nothing_left, split_off}
use Rattle.wp_lengths.proofs.FewerOrders.{more_orders_no_shorter}

-- a place has all orders of its items
pub record IsPlace (pairing : Pairing) (place : List ℕ) : Type 0 where
  pub ascending : IsStrictlyIncreasing place
  pub closed : (order other : ℕ) → Contains place order → AreJoined pairing.pairs order other → Contains place other

-- the empty place is one
pub empty_place : (pairing : Pairing) → IsPlace pairing []
empty_place pairing = record { ascending = λ k within. absurd (omega arith); closed = λ order other has. absurd (contains_none order has) }

-- a permitted batch is one
pub permitted_place : (pairing : Pairing) (batch : List ℕ) → IsPermitted pairing batch → IsPlace pairing batch
permitted_place pairing batch permitted = record {
  ascending = permitted.ascending;
  closed = λ order other has joined. joined_in pairing batch order other permitted joined has;
}

-- a permitted batch has all orders of a place, and all its other orders are of later items
pub record Extends (pairing : Pairing) (place : List ℕ) (from : ℕ) (batch : List ℕ) : Type 0 where
  pub permitted : IsPermitted pairing batch
  pub holds : (order : ℕ) → Contains place order → Contains batch order
  pub later : (order : ℕ) → Contains batch order → (Contains place order → ⊥) → IsLater pairing from order

-- each permitted batch is an extension of the empty place
extends_empty : (pairing : Pairing) (batch : List ℕ) → IsPermitted pairing batch → Extends pairing [] 0 batch
extends_empty pairing batch permitted = record {
  permitted = permitted;
  holds = λ order has. absurd (contains_none order has);
  later = λ order has none. record { known = All-contains (λ x. x < pairing.orders) batch order permitted.known has; later = λ other joined. omega arith };
}

-- where no further order is of this item, all further orders are of later ones
extends_on : (pairing : Pairing) (place batch : List ℕ) (from : ℕ) → Extends pairing place from batch
    → ((order : ℕ) → Contains batch order → (Contains place order → ⊥) → AreJoined pairing.pairs order from → ⊥) → Extends pairing place (from + 1) batch
extends_on pairing place batch from extends none = record {
  permitted = extends.permitted;
  holds = extends.holds;
  later = λ order has out. let old = extends.later order has out in record {
    known = old.known;
    later = λ other joined. let low = old.later other joined in
        ⊎_elim (λ (e : other ≡ from). absurd (none order has out (subst (λ (o : ℕ). AreJoined pairing.pairs order o) e joined)))
        (λ (ne : other ≢ from). omega (arith, low, ne)) (cases_eq other from);
  };
}

-- a further order of the item names it as one
item_from : (pairing : Pairing) (place batch : List ℕ) (from order : ℕ) → Extends pairing place from batch → Contains batch order
    → (Contains place order → ⊥) → AreJoined pairing.pairs order from → IsItem pairing from
item_from pairing place batch from order extends has out joined = record {
  known = All-contains (λ x. x < pairing.orders) batch from extends.permitted.known (joined_in pairing batch order from extends.permitted joined has);
  least = λ other next. (extends.later order has out).later other (joined_on joined next);
}

-- a place and an item of which a permitted batch has all orders make a permitted batch
pub union_permitted : (pairing : Pairing) (place batch union : List ℕ) (from : ℕ) → IsPlace pairing place → IsPermitted pairing batch
    → ((order : ℕ) → Contains place order → Contains batch order) → Contains batch from → AddsItem pairing place from union → IsPermitted pairing union
union_permitted pairing place batch union from is permitted holds has adds =
    let within = λ (x : ℕ) (h : Contains union x). ⊎_elim (λ old. holds x old) (λ j. joined_in pairing batch from x permitted j has)
    ((adds.orders x).0 h) in
    let one : Contains union from = (adds.orders from).1 (inr itself) in
    let short = no_longer union batch adds.ascending permitted.ascending within in
    let closed = λ (x y : ℕ) (j : AreJoined pairing.pairs x y) (h : Contains union x). (adds.orders y).1
    (⊎_elim (λ old. inl (is.closed x y old j)) (λ k. inr (joined_on k j)) ((adds.orders x).0 h)) in record {
      ascending = adds.ascending;
      filled = omega (arith, one.1);
      fits = omega (arith, short, permitted.fits);
      light = part_fits pairing.cart union batch adds.ascending permitted.ascending within permitted.light;
      known = all_from_contained (λ x. x < pairing.orders) union
          (λ x h. All-contains (λ o. o < pairing.orders) batch x permitted.known (within x h));
      together = λ pair added kind. (
        λ h. closed pair.first pair.second (chain_onward (record { pair = pair; added = added; kind = kind; both = inl (refl, refl) }) itself) h,
        λ h. closed pair.second pair.first (chain_onward (record { pair = pair; added = added; kind = kind; both = inr (refl, refl) }) itself) h,
      );
      apart = λ pair added kind both. permitted.apart pair added kind (within pair.first both.0, within pair.second both.1);
    }

-- a permitted batch that has the item extends the place with it
extends_union : (pairing : Pairing) (place batch union : List ℕ) (from : ℕ) → Extends pairing place from batch → Contains batch from
    → AddsItem pairing place from union → Extends pairing union (from + 1) batch
extends_union pairing place batch union from extends has adds = record {
  permitted = extends.permitted;
  holds = λ x h. ⊎_elim (λ old. extends.holds x old) (λ j. joined_in pairing batch from x extends.permitted j has) ((adds.orders x).0 h);
  later = λ order there out. let old = extends.later order there (λ h. out ((adds.orders order).1 (inl h))) in record {
    known = old.known;
    later = λ other joined. let low = old.later other joined in
        ⊎_elim (λ (e : other ≡ from).
        absurd (out ((adds.orders order).1 (inr (joined_back (subst (λ (o : ℕ). AreJoined pairing.pairs order o) e joined))))))
        (λ (ne : other ≢ from). omega (arith, low, ne)) (cases_eq other from);
  };
}

-- a batch that doesn't have the order has no further order of its item
not_of_item : (pairing : Pairing) (batch : List ℕ) (from : ℕ) → IsPermitted pairing batch → (Contains batch from → ⊥) → (order : ℕ) → Contains batch order
    → AreJoined pairing.pairs order from → ⊥
not_of_item pairing batch from permitted none order has joined = none (joined_in pairing batch order from permitted joined has)

-- all batches that extend a place pass, where its reach isn't too much
reach_passes : (wave : WavePicks) (pairing : Pairing) (duals place batch : List ℕ) (from total reach long : ℕ) → IsPlace pairing place
    → Extends pairing place from batch → IsLengthOf wave place total → IsReach pairing duals place from reach
    → duals_of duals place + reach ≤ 60 * total → IsLengthOf wave batch long → duals_of duals batch ≤ 60 * long
reach_passes wave pairing duals place batch from total reach long is extends alone reaches within length_is =
    let s = split_off (slice_index duals) place batch is.ascending extends.permitted.ascending extends.holds in
    let further : AreFurther pairing place from s.rest = record {
      ascending = s.ascending;
      fits = omega (arith, s.counts, extends.permitted.fits);
      later = all_from_contained (IsLater pairing from) s.rest (λ x has. extends.later x (s.of_whole x has) (s.not_of_part x has));
    } in
    omega (arith, s.sums, reaches.most s.rest further, within, more_orders_no_shorter wave place batch total long extends.holds alone length_is)

-- a batch that has no further order passes as its place does
place_passes : (wave : WavePicks) (pairing : Pairing) (duals place batch : List ℕ) (from long : ℕ) → IsPlace pairing place → pairing.orders ≤ from
    → Extends pairing place from batch → IsWithin wave duals place → IsLengthOf wave batch long → duals_of duals batch ≤ 60 * long
place_passes wave pairing duals place batch from long is past extends within length_is =
    let s = split_off (slice_index duals) place batch is.ascending extends.permitted.ascending extends.holds in
    let none = nothing_left s.rest (λ x has. let l = extends.later x (s.of_whole x has) (s.not_of_part x has) in
    omega (arith, l.known, l.later x itself, past)) in
    omega (
      arith,
      s.sums,
      ap (λ (xs : List ℕ). sum_by (slice_index duals) xs) none,
      within.2,
      more_orders_no_shorter wave place batch within.0 long extends.holds within.1 length_is,
    )

-- what a visit that passes says of all batches that extend its place
abbrev pub Says : WavePicks → Pairing → List ℕ → Due → Type 0
Says wave pairing duals (Place place from) = (batch : List ℕ) (long : ℕ) → IsPlace pairing place → Extends pairing place from batch
    → IsLengthOf wave batch long → duals_of duals batch ≤ 60 * long
Says wave pairing duals (Children place from) = (batch : List ℕ) (long : ℕ) → IsPlace pairing place → IsWithin wave duals place
    → Extends pairing place from batch → IsLengthOf wave batch long → duals_of duals batch ≤ 60 * long

-- a visit that passes says so
visit_says : (wave : WavePicks) (pairing : Pairing) (duals : List ℕ) (due : Due) (marks left : List Bool) → IsVisit wave pairing duals due marks (Passed left)
    → Says wave pairing duals due
visit_says wave pairing duals _ _ _ (pruned {place} {from} {total} {reach} alone reaches within) = λ batch long is extends length_is.
    reach_passes wave pairing duals place batch from total reach long is extends alone reaches within length_is
visit_says wave pairing duals _ _ left (entered {place} {from} {marks} within children) = λ batch long is extends length_is.
    visit_says wave pairing duals (Children place from) marks left children batch long is within extends length_is
visit_says wave pairing duals _ _ _ (all_added {place} {from} past) = λ batch long is within extends length_is.
    place_passes wave pairing duals place batch from long is past extends within length_is
visit_says wave pairing duals _ marks left (no_item {place} {from} none rest) = λ batch long is within extends length_is.
    visit_says wave pairing duals (Children place (from + 1)) marks left rest batch long is within
    (extends_on pairing place batch from extends (λ order has out joined. none (item_from pairing place batch from order extends has out joined))) length_is
visit_says wave pairing duals _ marks left (not_permitted {place} {batch = union} {from} adds never rest) = λ batch long is within extends length_is.
    visit_says wave pairing duals (Children place (from + 1)) marks left rest batch long is within
    (extends_on pairing place batch from extends (λ order has out joined. never
    (union_permitted pairing place batch union from is extends.permitted extends.holds
    (joined_in pairing batch order from extends.permitted joined has) adds))) length_is
visit_says wave pairing duals _ marks left
    (onward {place} {batch = union} {from} {left = between} item adds permitted first rest) = λ batch long is within extends length_is.
    ⊎_elim
    (λ has. visit_says wave pairing duals (Place union (from + 1)) marks between first batch long (permitted_place pairing union permitted)
    (extends_union pairing place batch union from extends has adds) length_is)
    (λ none. visit_says wave pairing duals (Children place (from + 1)) between left rest batch long is within
    (extends_on pairing place batch from extends (λ order has out joined. not_of_item pairing batch from extends.permitted none order has joined)) length_is)
    (in_or_not batch from)

-- duals whose marks pass are feasible: what is marked as not to be entered is safe
pub marks_are_sound : (wave : WavePicks) (pairing : Pairing) (duals : List ℕ) (marks left : List Bool)
    → IsVisitOfAll wave pairing duals marks (Passed left) → AreFeasible wave pairing duals
marks_are_sound wave pairing duals marks left visit = λ batch total permitted length_is.
    visit_says wave pairing duals (Place [] 0) marks left visit batch total (empty_place pairing) (extends_empty pairing batch permitted) length_is
