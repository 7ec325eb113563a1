-- Places and the items that are added to them: which names come after, and which batches have an order.
use Rattle.std.proofs.Common.{◌≡◌, ℕ, ◌+◌, ◌<◌, ◌≤◌, ◌↔◌, List, [], length, arith}
use Rattle.std.proofs.Common.{sym, subst, inl, inr, ⊎_elim, Contains, All}
use Rattle.std.specs.Prelude.{None, slice_get, Some, ℤ, pos, ◌+ℤ◌}
use Rattle.std.specs.List.Sorted.{IsStrictlyIncreasing}
use Rattle.std.proofs.lemmas.Option.{get_or_from_slice_get, slice_get_within}
use Rattle.wp_pairs.specs.Kept.{IsPairing}
use Rattle.wp_pairs.specs.Permitted.{AreJoined, IsPermitted, Pairing, itself}
use Rattle.wp_pairs.proofs.Chains.{joined_back, joined_on}
use Rattle.wp_pairs.proofs.Classes.{joined_in, joined_known}
use Rattle.wp_lengths.proofs.Ascending.{first_least}
use Rattle.wp_lengths.proofs.DualBounds.{bounded_duals}
use Rattle.wp_lengths.proofs.Further.{none_first}
use Rattle.wp_lengths.proofs.Visits.{union_permitted}
use Rattle.wp_lengths.specs.Duals.{duals_of, sixtieths_of}
use Rattle.wp_lengths.specs.Lengths.{IsLengthOf}
use Rattle.wp_lengths.specs.Waves.{WavePicks}
use Rattle.wp_lengths.specs.Visits.{AddsItem, IsItem}
use Rattle.wp_pairs.proofs.Members.{contains_none}
use Rattle.wp_visit.specs.declared.place.Place.{Place}
use Rattle.wp_visit.specs.Places.{IsAt, IsNoChild, Task}
use Rattle.wp_visit.proofs.Children.{reached_known, reached_place}
use Rattle.wp_price.specs.Searches.{HasDuals, IsSearchOf, NamesBelow}
use Rattle.wp_price.specs.Slacks.{HasNoCandidate, IsSlack}

-- nothing is in no order
nothing : (xs : List ℕ) (x : ℕ) → xs ≡ [] → Contains xs x → ⊥
nothing xs x e has = contains_none x (subst (λ (ys : List ℕ). Contains ys x) e has)

-- the orders of a place with one more item that name items are below the next order
pub names_more : (pairing : Pairing) (place union : List ℕ) (from order : ℕ) → from ≤ order → AddsItem pairing place order union
    → NamesBelow pairing place from → NamesBelow pairing union (order + 1)
names_more pairing place union from order low adds below = λ x has item. ⊎_elim
    (λ (old : Contains place x). omega (arith, below x old item, low))
    (λ (j : AreJoined pairing.pairs order x). omega (arith, item.least order (joined_back j))) ((adds.orders x).0 has)

-- a place of no order has no order that names an item
pub names_none : (pairing : Pairing) (place : List ℕ) → place ≡ [] → NamesBelow pairing place 0
names_none pairing place e order has item = absurd (nothing place order e has)

-- the least order of a class names it
pub least_names : (pairing : Pairing) (class : List ℕ) (order least : ℕ) → IsStrictlyIncreasing class
    → ((other : ℕ) → Contains class other ↔ AreJoined pairing.pairs order other) → slice_get class 0 ≡ Some least → least < pairing.orders
    → IsItem pairing least
least_names pairing class order least up is first known = record {
  known = known;
  least = λ other joined.
      let j = (is least).0 (0, slice_get_within class 0 least first, get_or_from_slice_get class 0 least least first) in
      let at = first_least class other up ((is other).1 (joined_on j joined)) in
      omega (arith, at, get_or_from_slice_get class 0 least 0 first);
}

-- a class has a least order
pub no_least : (pairing : Pairing) (class : List ℕ) (order : ℕ) → ((other : ℕ) → Contains class other ↔ AreJoined pairing.pairs order other)
    → slice_get class 0 ≡ None → ⊥
no_least pairing class order is none = let has = (is order).1 itself in none_first class (omega (arith, has.1)) none

-- the orders of the place of no order with the least order's class are those that are joined to the order
pub class_of_least : (pairing : Pairing) (root class batch : List ℕ) (order least : ℕ) → root ≡ []
    → ((other : ℕ) → Contains class other ↔ AreJoined pairing.pairs order other) → slice_get class 0 ≡ Some least → AddsItem pairing root least batch
    → (other : ℕ) → Contains batch other ↔ AreJoined pairing.pairs order other
class_of_least pairing root class batch order least empty is first adds other =
    let j = (is least).0 (0, slice_get_within class 0 least first, get_or_from_slice_get class 0 least least first) in (
      λ has. ⊎_elim (λ (old : Contains root other). absurd (nothing root other empty old)) (λ k. joined_on j k) ((adds.orders other).0 has),
      λ k. (adds.orders other).1 (inr (joined_on (joined_back j) k)),
    )

-- where it adds nothing, no permitted batch has the order
pub none_through : (pairing : Pairing) (root class : List ℕ) (order least : ℕ) → root ≡ [] → IsStrictlyIncreasing class
    → ((other : ℕ) → Contains class other ↔ AreJoined pairing.pairs order other) → slice_get class 0 ≡ Some least → least < pairing.orders
    → IsNoChild pairing root least → HasNoCandidate pairing (Some order)
none_through pairing root class order least empty up is first known none = λ batch candidate.
    let j = (is least).0 (0, slice_get_within class 0 least first, get_or_from_slice_get class 0 least least first) in
    ⊎_elim (λ (has : Contains root least). nothing root least empty has)
    (λ more. ⊎_elim (λ (never : IsItem pairing least → ⊥). never (least_names pairing class order least up is first known))
    (λ (u : (union : List ℕ) × AddsItem pairing root least union × (IsPermitted pairing union → ⊥)). u.2
    (union_permitted pairing root batch u.0 least (reached_place pairing root (inl empty)) candidate.0 (λ x has. absurd (nothing root x empty has))
    (joined_in pairing batch order least candidate.0 j candidate.1) u.1))
    more) none

-- no permitted batch has more in duals than eight times the greatest
pub permitted_small : (task : Task) (batch : List ℕ) → HasDuals task → IsPermitted task.pairing batch → duals_of task.duals batch ≤ 8000000000000
permitted_small task batch has permitted =
    let low = bounded_duals task.duals batch
    (subst (λ (n : ℕ). All (λ order. order < n) batch) (sym has.count) permitted.known) has.duals.within in
    omega (arith, low, permitted.fits, has.valid.most_capacity)

-- and has at most eight orders
pub permitted_few : (task : Task) (batch : List ℕ) → HasDuals task → IsPermitted task.pairing batch → length batch ≤ 8
permitted_few task batch has permitted = omega (arith, permitted.fits, has.valid.most_capacity)

-- nor has a place
pub place_small : (task : Task) (place : Place) → HasDuals task → IsAt task place → place.sum ≤ 8000000000000
place_small task place has at =
    let low = bounded_duals task.duals place.batch (reached_known task.pairing place.batch (length task.duals) at.reached (sym has.count)) has.duals.within in
    omega (arith, low, at.sum, at.size, at.fits, has.valid.most_capacity)

-- the least order of a class is one of the wave
pub least_known : (pairing : Pairing) (class : List ℕ) (order least : ℕ) → IsPairing pairing → order < pairing.orders
    → ((other : ℕ) → Contains class other ↔ AreJoined pairing.pairs order other) → slice_get class 0 ≡ Some least → least < pairing.orders
least_known pairing class order least valid known is first =
    joined_known pairing order least valid known ((is least).0 (0, slice_get_within class 0 least first, get_or_from_slice_get class 0 least least first))

-- the slack of a batch under the duals of a search
pub slack_is : (now task : Task) (wave : WavePicks) (duals batch : List ℕ) (slack : ℤ) (total : ℕ) → task ≡ now → IsSearchOf task wave duals
    → IsLengthOf wave batch total → slack +ℤ pos (duals_of duals batch) ≡ pos (sixtieths_of total) → IsSlack now.wave now.duals batch slack
slack_is now task wave duals batch slack total view is long sum =
    subst (λ (t : Task). IsSlack t.wave t.duals batch slack) view
    (subst (λ (w : WavePicks). IsSlack w task.duals batch slack) (sym is.same_wave)
    (subst (λ (d : List ℕ). IsSlack wave d batch slack) (sym is.same_duals) (record { total = total; long = long; is = sum })))
