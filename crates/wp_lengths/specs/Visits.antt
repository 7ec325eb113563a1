-- Marks: which permitted batches are visited to see that duals are feasible. A batch that is marked as not to be
-- entered stands for all batches that have more orders after it.
use Rattle.std.specs.Prelude.{◌≡◌, ℕ, ◌+◌, ◌<◌, ◌≤◌, ◌⊎◌, ◌↔◌, Bool, true, false, List, [], ◌∷◌, All, Contains, length}
use Rattle.std.specs.List.Sorted.{IsStrictlyIncreasing}
use Rattle.wp_pairs.specs.Permitted.{AreJoined, IsPermitted, Pairing}
use Rattle.wp_lengths.specs.Lengths.{IsLengthOf}
use Rattle.wp_lengths.specs.Waves.{WavePicks}
use Rattle.wp_lengths.specs.Duals.{duals_of, sixtieths_of}

-- An item is a class of orders that are to go together; it is named by its least order. This order names an item.
pub record IsItem (pairing : Pairing) (order : ℕ) : Type 0 where
  pub known : order < pairing.orders
  pub least : (other : ℕ) → AreJoined pairing.pairs order other → order ≤ other

-- an order of an item whose name is this one or later
pub record IsLater (pairing : Pairing) (from order : ℕ) : Type 0 where
  pub known : order < pairing.orders
  pub later : (other : ℕ) → AreJoined pairing.pairs order other → from ≤ other

-- the orders of a place and those of one more item, in ascending order
pub record AddsItem (pairing : Pairing) (place : List ℕ) (item : ℕ) (batch : List ℕ) : Type 0 where
  pub ascending : IsStrictlyIncreasing batch
  pub orders : (order : ℕ) → Contains batch order ↔ (Contains place order ⊎ AreJoined pairing.pairs item order)

-- some orders of later items, no more than a place has room for
pub record AreFurther (pairing : Pairing) (place : List ℕ) (from : ℕ) (orders : List ℕ) : Type 0 where
  pub ascending : IsStrictlyIncreasing orders
  pub fits : length orders + length place ≤ pairing.capacity
  pub later : All (IsLater pairing from) orders

-- The reach of a place: the most that further orders can add to what it has in duals. It is the sum of the largest
-- duals of orders of later items, as many as the place has room for.
pub record IsReach (pairing : Pairing) (duals place : List ℕ) (from reach : ℕ) : Type 0 where
  pub some : (orders : List ℕ) × AreFurther pairing place from orders × (duals_of duals orders ≡ reach)
  pub most : (orders : List ℕ) → AreFurther pairing place from orders → duals_of duals orders ≤ reach

-- a place has no more in duals than sixty times its length; the empty place is no batch, and passes
abbrev pub IsWithin : WavePicks → List ℕ → List ℕ → Type 0
IsWithin wave duals place = (total : ℕ) × IsLengthOf wave place total × (duals_of duals place ≤ sixtieths_of total)

-- what is due: the test of a place, whose later items begin from an order on, and then of those after it; or the places
-- that add to it one item from an order on
pub data Due : Type 0 where
  Place : List ℕ → ℕ → Due
  Children : List ℕ → ℕ → Due

-- what comes of it: all tests pass, and these marks are left; or a batch has too much; or a mark is missing, or doesn't
-- hold
pub data Visit : Type 0 where
  Passed : List Bool → Visit
  TooMuch : List ℕ → Visit
  Wrong : Visit

-- The visit of what is due, with the marks from there on, in preorder. A place is first tested itself. Then its mark
-- says whether it is entered: if not, its reach must not make it too much; if so, the places with one more item follow
-- in the order of the items. An item that with the place makes no permitted batch is passed over.
pub data IsVisit (wave : WavePicks) (pairing : Pairing) (duals : List ℕ) : Due → List Bool → Visit → Type 0 where
  too_much : {place : List ℕ} {from total : ℕ} {marks : List Bool} → IsLengthOf wave place total
      → sixtieths_of total < duals_of duals place
      → IsVisit wave pairing duals (Place place from) marks (TooMuch place)
  missing : {place : List ℕ} {from : ℕ} → IsWithin wave duals place
      → IsVisit wave pairing duals (Place place from) [] Wrong
  pruned : {place : List ℕ} {from total reach : ℕ} {marks : List Bool} → IsLengthOf wave place total
      → IsReach pairing duals place from reach
      → duals_of duals place + reach ≤ sixtieths_of total
      → IsVisit wave pairing duals (Place place from) (false ∷ marks) (Passed marks)
  unsound : {place : List ℕ} {from total reach : ℕ} {marks : List Bool} → IsWithin wave duals place
      → IsLengthOf wave place total
      → IsReach pairing duals place from reach → sixtieths_of total < duals_of duals place + reach
      → IsVisit wave pairing duals (Place place from) (false ∷ marks) Wrong
  entered : {place : List ℕ} {from : ℕ} {marks : List Bool} {visit : Visit} → IsWithin wave duals place
      → IsVisit wave pairing duals (Children place from) marks visit
      → IsVisit wave pairing duals (Place place from) (true ∷ marks) visit
  all_added : {place : List ℕ} {from : ℕ} {marks : List Bool} → pairing.orders ≤ from
      → IsVisit wave pairing duals (Children place from) marks (Passed marks)
  no_item : {place : List ℕ} {from : ℕ} {marks : List Bool} {visit : Visit} → (IsItem pairing from → ⊥)
      → IsVisit wave pairing duals (Children place (from + 1)) marks visit
      → IsVisit wave pairing duals (Children place from) marks visit
  not_permitted : {place batch : List ℕ} {from : ℕ} {marks : List Bool} {visit : Visit}
      → AddsItem pairing place from batch
      → (IsPermitted pairing batch → ⊥)
      → IsVisit wave pairing duals (Children place (from + 1)) marks visit
      → IsVisit wave pairing duals (Children place from) marks visit
  refused_batch : {place batch most : List ℕ} {from : ℕ} {marks : List Bool} → IsItem pairing from
      → AddsItem pairing place from batch
      → IsPermitted pairing batch → IsVisit wave pairing duals (Place batch (from + 1)) marks (TooMuch most)
      → IsVisit wave pairing duals (Children place from) marks (TooMuch most)
  refused_mark : {place batch : List ℕ} {from : ℕ} {marks : List Bool} → IsItem pairing from
      → AddsItem pairing place from batch
      → IsPermitted pairing batch → IsVisit wave pairing duals (Place batch (from + 1)) marks Wrong
      → IsVisit wave pairing duals (Children place from) marks Wrong
  onward : {place batch : List ℕ} {from : ℕ} {marks left : List Bool} {visit : Visit} → IsItem pairing from
      → AddsItem pairing place from batch
      → IsPermitted pairing batch → IsVisit wave pairing duals (Place batch (from + 1)) marks (Passed left)
      → IsVisit wave pairing duals (Children place (from + 1)) left visit
      → IsVisit wave pairing duals (Children place from) marks visit

-- the visit of all that is due at a node: from the empty place on
abbrev pub IsVisitOfAll : WavePicks → Pairing → List ℕ → List Bool → Visit → Type 0
IsVisitOfAll wave pairing duals marks visit = IsVisit wave pairing duals (Place [] 0) marks visit
