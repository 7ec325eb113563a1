-- Right trees, and the bound that they show. At each node the batchings are those of permitted batches alone; a split
-- parts them by whether two orders go together or apart (Ryan and Foster, 1981).
use Rattle.std.specs.Prelude.{◌≡◌, ℕ, ◌<◌, ◌≤◌, min, Bool, true, false, List, [], ◌∷◌, ◌++◌, Option, Some, None, length}
use Rattle.std.specs.Prelude.{slice_index_or}
use Rattle.wp_pairs.specs.Permitted.{AreUndecided, IsDead, Pairing}
use Rattle.wp_lengths.specs.Batchings.{no_pairs}
use Rattle.wp_lengths.specs.Waves.{WavePicks}
use Rattle.wp_lengths.specs.Duals.{IsSumOfShares}
use Rattle.wp_lengths.specs.Visits.{Due, Passed, Place, Visit}
use Rattle.wp_cuts.specs.PricedVisits.{IsPricedVisit}
use Rattle.wp_cuts.specs.Prices.{ArePlain, ArePricesFeasible, ArePricesTight, ShowsTight}
use Rattle.wp_cuts.specs.Steps.{IsRoundedUp}
use Rattle.wp_cert.specs.declared.tree.Node.{Node}
use Rattle.wp_cert.specs.declared.tree.Node.TheVariants as node
use Rattle.wp_cert.specs.declared.tree.Own.{Own}
use Rattle.wp_cert.specs.declared.tree.Tree.{Tree}
use Rattle.wp_cert.specs.Terms.{AreTermsFor, Terms, net_of, prices_of, terms_of}

-- two more orders are to go together, or else apart
abbrev pub with_pair : Pairing → ℕ → ℕ → Bool → Pairing
with_pair pairing first second together = record {
  orders = pairing.orders;
  capacity = pairing.capacity;
  cart = pairing.cart;
  pairs = pairing.pairs ++ record { first = first; second = second; together = together } ∷ [];
}

-- one dual and one tight batch for each order, and one price for each cut
pub record HasAll (terms : Terms) (pairing : Pairing) (own : Own) : Type 0 where
  pub duals : length own.duals ≡ pairing.orders
  pub tight : length own.tight ≡ pairing.orders
  pub prices : length own.prices ≡ length terms.cuts

-- of any two orders it is decided whether they go together
abbrev pub IsDecided : Pairing → Type 0
IsDecided pairing = (first second : ℕ) → AreUndecided pairing first second → ⊥

-- where all is decided, neither batches nor cuts have a price
abbrev pub ArePricesAllowed : Pairing → Own → Type 0
ArePricesAllowed pairing own = IsDecided pairing → ArePlain (prices_of own)

-- the marks of a node, from there on, tell this visit of what is due
abbrev pub IsMarkedVisit : Terms → Pairing → Own → Due → List Bool → Visit → Type 0
IsMarkedVisit terms pairing own due marks visit
    = IsPricedVisit terms.wave pairing terms.cuts (prices_of own) due marks visit

-- the marks of a node tell this visit of all
abbrev pub IsVisitOfAll : Terms → Pairing → Own → Visit → Type 0
IsVisitOfAll terms pairing own visit = IsMarkedVisit terms pairing own (Place [] 0) own.marks visit

-- the prices of a node are feasible
abbrev pub IsFeasible : Terms → Pairing → Own → Type 0
IsFeasible terms pairing own = ArePricesFeasible terms.wave pairing terms.cuts (prices_of own)

-- and tight
abbrev pub IsTight : Terms → Pairing → Own → Type 0
IsTight terms pairing own = ArePricesTight terms.wave pairing terms.cuts (prices_of own)

-- a batch is tight for an order
abbrev pub IsTightBatch : Terms → Pairing → Own → ℕ → List ℕ → Type 0
IsTightBatch terms pairing own order batch
    = ShowsTight terms.wave pairing terms.cuts (prices_of own) order batch

-- the batch that is given for an order is tight for it
abbrev pub IsTightAt : Terms → Pairing → Own → ℕ → Type 0
IsTightAt terms pairing own order = IsTightBatch terms pairing own order (slice_index_or own.tight order [])

-- What a node has of its own is right: prices that are plain where all is decided, whose net is no less than that of
-- the node above, which are feasible, and tight; marks that show that they are feasible, with none left; and for each
-- order a batch that shows that they are tight.
pub record IsRightOwn (terms : Terms) (pairing : Pairing) (above : ℕ) (own : Own) : Type 0 where
  pub all : HasAll terms pairing own
  pub allowed : ArePricesAllowed pairing own
  pub raised : above ≤ net_of terms own
  pub feasible : IsFeasible terms pairing own
  pub tight : IsTight terms pairing own
  pub marked : IsVisitOfAll terms pairing own (Passed [])
  pub shown : (order : ℕ) → order < pairing.orders → IsTightAt terms pairing own order

-- the lower of the bounds of two subtrees, of which one whose leaves are all dead has none
abbrev pub lower_of : Option ℕ → Option ℕ → Option ℕ
lower_of None right = right
lower_of (Some left) None = Some left
lower_of (Some left) (Some right) = Some (min left right)

-- A right tree stands first in a list of nodes, the others follow it; it has this bound. The net of the node above is
-- the number that is given. A leaf's bound is its net in units, rounded up to a multiple of the step.
pub data IsRight (terms : Terms) : Pairing → ℕ → List Node → List Node → Option ℕ → Type 0 where
  kept : {pairing : Pairing} {above bound : ℕ} {rest : List Node} → IsRoundedUp terms.step above bound
      → IsRight terms pairing above (node.Leaf None ∷ rest) rest (Some bound)
  leaf : {pairing : Pairing} {above bound : ℕ} {own : Own} {rest : List Node} → IsRightOwn terms pairing above own
      → IsRoundedUp terms.step (net_of terms own) bound
      → IsRight terms pairing above (node.Leaf (Some own) ∷ rest) rest (Some bound)
  dead : {pairing : Pairing} {above order : ℕ} {rest : List Node} → IsDead pairing order
      → IsRight terms pairing above (node.Dead order ∷ rest) rest None
  split : {pairing : Pairing} {above first second : ℕ} {own : Own} {nodes between rest : List Node} {left
      right : Option ℕ}
      → IsRightOwn terms pairing above own → AreUndecided pairing first second
      → IsRight terms (with_pair pairing first second true) (net_of terms own) nodes between left
      → IsRight terms (with_pair pairing first second false) (net_of terms own) between rest right
      → IsRight terms pairing above (node.Split first second (Some own) ∷ nodes) rest (lower_of left right)

-- the nodes are a right tree on the terms with such a step, none is left, and this is its bound
abbrev pub IsRightTree : WavePicks → ℕ → Tree → ℕ → ℕ → ℕ → Type 0
IsRightTree wave capacity tree step shares bound = IsRight (terms_of wave capacity tree.cuts step)
    (no_pairs wave capacity) shares tree.nodes [] (Some bound)

-- the nodes are a right tree, none is left, and this is its bound; above the root stand the share duals
abbrev pub IsBoundOf : WavePicks → ℕ → Tree → ℕ → Type 0
IsBoundOf wave capacity tree bound =
    (step : ℕ) × (shares : ℕ) × AreTermsFor wave tree.cuts step × IsSumOfShares wave capacity shares
    × IsRightTree wave capacity tree step shares bound

-- a tree of the first two forms
abbrev pub plain_tree : List Node → Tree
plain_tree nodes = record { nodes = nodes; cuts = None }
