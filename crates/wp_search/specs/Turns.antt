-- Turns of the search: what one does to a subtree, and to the tree.
use Rattle.std.specs.Prelude.{◌≡◌, ℕ, ◌+◌, ◌≤◌, ⊤, Bool, true, false, List, Option, Some, None}
use Rattle.wp_pairs.specs.Permitted.{Pairing}
use Rattle.wp_lengths.specs.Batchings.{IsBatching, IsCost, IsListedByLeast}
use Rattle.wp_batch.specs.Joins.{NoJoinGains}
use Rattle.wp_lengths.specs.Waves.{WavePicks}
use Rattle.wp_lengths.specs.Duals.{units_of}
use Rattle.wp_search.specs.Branches.{AreCutsWithin, IsBranch, bound_of, nodes_of, own_bound, own_count, turns_left}
use Rattle.wp_search.specs.declared.branch.Branch.{Branch}
use Rattle.wp_search.specs.declared.branch.Branch.TheVariants.{Split'}
use Rattle.wp_search.specs.declared.turn.LeafTurn.{LeafTurn}
use Rattle.wp_search.specs.declared.turn.LeafTurn.TheVariants.{Onward, Settled, Spent, Worked}

-- a bound that is no lower than one before; a subtree whose leaves are all dead has none any more
abbrev pub IsNoLower : Option ℕ → Option ℕ → Type 0
IsNoLower before None = ⊤
IsNoLower None (Some after) = ⊥
IsNoLower (Some before) (Some after) = before ≤ after

-- a batching of the wave within the capacity, listed by the least orders, in which no two batches gain by joining
pub record IsProper (wave : WavePicks) (capacity : ℕ) (batches : List (List ℕ)) : Type 0 where
  pub batching : IsBatching wave capacity batches
  pub listed : IsListedByLeast batches
  pub joined : NoJoinGains wave capacity batches

-- a batching that was found, if one was
abbrev pub IsRestFound : WavePicks → ℕ → Option (List (List ℕ)) → Type 0
IsRestFound wave capacity None = ⊤
IsRestFound wave capacity (Some batches) = IsProper wave capacity batches

-- a batching whose cost is this
pub record IsSettled (wave : WavePicks) (capacity total : ℕ) (batches : List (List ℕ)) : Type 0 where
  pub batching : IsBatching wave capacity batches
  pub listed : IsListedByLeast batches
  pub cost : IsCost wave batches total

-- how many nodes get duals of their own by a turn
abbrev pub made_by : LeafTurn → ℕ
made_by (Worked found) = 1
made_by _ = 0

-- why a turn ended as it did, where the budget pays for a node or doesn't, and the bound of its leaf is this
abbrev pub HasReason : WavePicks → ℕ → Bool → ℕ → Branch → Branch → LeafTurn → Type 0
HasReason wave capacity pays least before after (Worked found)
    = (pays ≡ true) × IsRestFound wave capacity found × (turns_left after ≤ turns_left before + 2)
HasReason wave capacity pays least before after Onward = turns_left after + 1 ≤ turns_left before
HasReason wave capacity pays least before after Spent = pays ≡ false
HasReason wave capacity pays least before after (Settled batching) = IsSettled wave capacity least batching

-- turns that leave a subtree's bound as it is
abbrev pub LeavesBound : LeafTurn → Type 0
LeavesBound (Worked found) = ⊥
LeavesBound Onward = ⊥
LeavesBound Spent = ⊤
LeavesBound (Settled batching) = ⊤

-- of the leaves whose bound is the least, the first one changes: of two subtrees the first whose bound is the least
-- changes in this way, and the other has the nodes that it had
abbrev pub ChangesFirst : ℕ → ℕ → Branch → Branch → Type 0
ChangesFirst least above (Split' cut p together q apart) (Split' cut_after r together_after s apart_after) =
    (bound_of (own_bound cut.worked) together ≡ Some least
    → (nodes_of apart_after ≡ nodes_of apart) × ChangesFirst least (own_bound cut.worked) together together_after)
    × ((bound_of (own_bound cut.worked) together ≡ Some least → ⊥)
    → (nodes_of together_after ≡ nodes_of together) × ChangesFirst least (own_bound cut.worked) apart apart_after)
ChangesFirst least above before after = ⊤

-- What a turn at the first leaf with the least bound makes of a subtree: it is right still, no bound of it has fallen,
-- as many more nodes have duals of their own as the turn made, and only nodes with that bound were split.
pub record IsTurned (wave : WavePicks) (pairing : Pairing) (above : ℕ) (pays : Bool) (least : ℕ) (before after : Branch)
    (turn : LeafTurn) : Type 0 where
  pub right : IsBranch wave pairing above after
  pub first : ChangesFirst least (units_of above) before after
  pub risen : IsNoLower (bound_of (units_of above) before) (bound_of (units_of above) after)
  pub still : LeavesBound turn → bound_of (units_of above) after ≡ bound_of (units_of above) before
  pub made : own_count after ≡ own_count before + made_by turn
  pub cuts : (bound : ℕ) → least ≤ bound → AreCutsWithin bound before → AreCutsWithin bound after
  pub reason : HasReason wave pairing.capacity pays least before after turn
