-- The search for a plan: its tree, its best batching, and what is left of its budget.
use Rattle.std.specs.Prelude.{◌≡◌, ℕ, ◌+◌, ◌-◌, ◌*◌, ◌<◌, ◌≤◌, ◌⊎◌, Bool, true, false, Some, length}
use Rattle.wp_lengths.specs.Batchings.{IsCost, no_pairs}
use Rattle.wp_lengths.specs.Waves.{WavePicks}
use Rattle.wp_lengths.specs.Duals.{units_of}
use Rattle.wp_search.specs.Branches.{AreCutsWithin, IsBranch, bound_of, own_count, turns_left}
use Rattle.wp_node.specs.Prices.{price}
use Rattle.wp_search.specs.Turns.{IsProper}
use Rattle.wp_search.specs.declared.best.BestBatching.{BestBatching}
use Rattle.wp_search.specs.declared.search.TreeSearch.{TreeSearch}

-- a batching and its cost
pub record IsBest (wave : WavePicks) (capacity : ℕ) (best : BestBatching) : Type 0 where
  pub proper : IsProper wave capacity best.batching
  pub cost : IsCost wave best.batching best.cost

-- the best batching stays, or one that costs less takes its place
abbrev pub KeepsBest : BestBatching → BestBatching → Type 0
KeepsBest before after = (after ≡ before) ⊎ (after.cost < before.cost)

-- A search for a wave and a capacity, at whose root stand share duals that come to this: its tree is right; it has
-- spent the price of each node with duals of its own, and no more than its budget; and each node that is split has a
-- bound that the tree's isn't below.
pub record IsSearch (wave : WavePicks) (capacity shares : ℕ) (search : TreeSearch) : Type 0 where
  pub best : IsBest wave capacity search.best
  pub right : IsBranch wave (no_pairs wave capacity) shares search.tree
  pub paid : search.spent ≡ own_count search.tree * price (length wave.orders) capacity
  pub within : search.spent ≤ search.budget
  pub cuts : (bound : ℕ) → bound_of (units_of shares) search.tree ≡ Some bound → AreCutsWithin bound search.tree

-- how many turns a search may still take at most
abbrev pub turns_within : TreeSearch → ℕ
turns_within search = 3 * (search.budget - search.spent) + turns_left search.tree

-- why a search ends: the budget doesn't pay for a further node, or the best batching costs the tree's bound
abbrev pub HasEnded : WavePicks → ℕ → ℕ → TreeSearch → Type 0
HasEnded wave capacity shares search =
    (search.budget < search.spent + price (length wave.orders) capacity)
    ⊎ (bound_of (units_of shares) search.tree ≡ Some search.best.cost)

-- what a turn makes of a search
pub record IsOnward (wave : WavePicks) (capacity shares : ℕ) (before after : TreeSearch) (goes_on : Bool) : Type 0 where
  pub search : IsSearch wave capacity shares after
  pub budget : after.budget ≡ before.budget
  pub fewer : goes_on ≡ true → turns_within after < turns_within before
  pub ended : goes_on ≡ false → HasEnded wave capacity shares after
