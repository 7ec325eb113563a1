-- Good plans of a wave.
use Rattle.std.specs.Prelude.{◌≡◌, ℕ, ◌*◌, ◌≤◌, ◌⊎◌, ◌↔◌, ⊤, true, false, List, [], ◌∷◌, All, None, Some, length, sum}
use Rattle.std.specs.List.Sorted.{IsStrictlyIncreasing}
use Rattle.wp_pairs.specs.Permitted.{Pairing}
use Rattle.wp_lengths.specs.Batchings.{IsCost, IsListedByLeast, no_pairs}
use Rattle.wp_batch.specs.Joins.{NoJoinGains}
use Rattle.wp_lengths.specs.Waves.{WavePicks}
use Rattle.wp_cert.specs.TextData.{HaveDualsWithin}
use Rattle.wp_cert.specs.Trees.{IsBoundOf, with_pair}
use Rattle.wp_cert.specs.Walks.{ArePutIntoBatches, NoWalksAreShorter}
use Rattle.wp_cert.specs.declared.tree.Node.{Node}
use Rattle.wp_cert.specs.declared.tree.Node.TheVariants as node
use Rattle.wp_cert.specs.declared.tree.Own.{Own}
use Rattle.wp_lengths.specs.Duals.{units_of}
use Rattle.wp_price.specs.ShortMarks.{AreShortMarks}
use Rattle.wp_search.specs.Counts.{own_nodes}
use Rattle.wp_node.specs.Prices.{full, price}
use Rattle.wp_search.specs.declared.plan.Planned.{Planned}
use Rattle.wp_search.specs.declared.plan.State.TheVariants as states

-- a node that is split has a bound of at most this: it was split only while no leaf had a lower one
abbrev pub IsSplitWithin : ℕ → Node → Type 0
IsSplitWithin bound (node.Leaf own) = ⊤
IsSplitWithin bound (node.Dead order) = ⊤
IsSplitWithin bound (node.Split first second None) = ⊤
IsSplitWithin bound (node.Split first second (Some own)) = units_of (sum own.duals) ≤ bound

-- A tree stands first in a list of nodes, the others follow it, and the marks of each of its nodes with duals of its
-- own are the short marks of these duals.
pub data HasShortMarks (wave : WavePicks) : Pairing → List Node → List Node → Type 0 where
  kept : {pairing : Pairing} {rest : List Node} → HasShortMarks wave pairing (node.Leaf None ∷ rest) rest
  leaf : {pairing : Pairing} {own : Own} {rest : List Node} → AreShortMarks wave pairing own.duals own.marks
      → HasShortMarks wave pairing (node.Leaf (Some own) ∷ rest) rest
  dead : {pairing : Pairing} {order : ℕ} {rest : List Node} → HasShortMarks wave pairing (node.Dead order ∷ rest) rest
  split : {pairing : Pairing} {first second : ℕ} {own : Own} {nodes between rest : List Node}
      → AreShortMarks wave pairing own.duals own.marks
      → HasShortMarks wave (with_pair pairing first second true) nodes between
      → HasShortMarks wave (with_pair pairing first second false) between rest
      → HasShortMarks wave pairing (node.Split first second (Some own) ∷ nodes) rest

-- What a plan of a wave for a capacity shows.
pub record IsSoundPlan (wave : WavePicks) (capacity : ℕ) (planned : Planned) : Type 0 where
  -- the wave's orders are put into batches within the capacity; each batch has its orders in ascending order, and the
  -- batches are listed by their least orders
  pub batching : ArePutIntoBatches wave capacity planned.batching
  pub ascending : All IsStrictlyIncreasing planned.batching
  pub listed : IsListedByLeast planned.batching
  -- it costs so much
  pub cost : IsCost wave planned.batching planned.cost
  -- the tree is right and has this bound, so however the wave is put into batches within the capacity, carts walk no
  -- less, nor does this batching cost less
  pub bound : IsBoundOf wave capacity planned.tree planned.bound
  pub least : NoWalksAreShorter wave capacity planned.bound
  pub below : planned.bound ≤ planned.cost
  -- it is of the first two forms; its duals are within their range, and its marks are the short ones
  pub plain : planned.tree.cuts ≡ None
  pub duals : HaveDualsWithin planned.tree
  pub short : HasShortMarks wave (no_pairs wave capacity) planned.tree.nodes []

-- What a budget buys for a plan.
pub record IsWorthItsBudget (wave : WavePicks) (capacity budget : ℕ) (planned : Planned) : Type 0 where
  -- the plan is proven cheapest exactly where the bound is the cost
  pub state : (planned.state ≡ states.Proven) ↔ (planned.bound ≡ planned.cost)
  -- no two batches gain by joining
  pub joined : NoJoinGains wave capacity planned.batching
  -- the budget pays for each node with duals of its own; the plan is proven, or as many nodes have them as the budget
  -- pays for
  pub within : own_nodes planned.tree.nodes * price (length wave.orders) capacity ≤ budget
  pub worked : (nodes : ℕ) → nodes * price (length wave.orders) capacity ≤ budget
      → (planned.state ≡ states.Proven) ⊎ (nodes ≤ own_nodes planned.tree.nodes)
  -- where the budget pays for a full tree, the plan is proven
  pub full_tree : full (length wave.orders) capacity ≤ budget → planned.state ≡ states.Proven
  -- only nodes whose bound is no higher than the tree's were split
  pub splits : All (IsSplitWithin planned.bound) planned.tree.nodes

-- A good plan of a wave for a capacity and a budget.
pub record IsGoodPlan (wave : WavePicks) (capacity budget : ℕ) (planned : Planned) : Type 0 where
  pub sound : IsSoundPlan wave capacity planned
  pub worth : IsWorthItsBudget wave capacity budget planned
