-- Brackets of the linear bounds of waves that went out.
use Rattle.std.specs.Prelude.{◌≡◌, ℕ, ◌<◌, ◌/◌, Bool, true, false, List, [], ◌∷◌, None, Option, Some, length, ℤ, ◌*ℤ◌}
use Rattle.std.specs.Prelude.{◌≤ℤ◌}
use Rattle.wp_cert.specs.declared.tree.Node.{Node}
use Rattle.wp_cert.specs.declared.tree.Node.TheVariants as node
use Rattle.wp_lengths.specs.Waves.{WavePicks}
use Rattle.wp_lp.specs.Covers.{IsBelowCovers, IsLinearBound, pairs_of}
use Rattle.wp_lp.specs.Knowns.{ReachesShares}
use Rattle.wp_lp.specs.Roots.{IsRoot}
use Rattle.wp_lp.specs.Runs.{HasPermitted}
use Rattle.wp_lp.specs.declared.root.Root.{Root}
use Rattle.wp_lp.specs.declared.root.RootState.{RootState}
use Rattle.wp_lp.specs.declared.root.RootState.TheVariants as state
use Rattle.wp_node.specs.Prices.{price}
use Rattle.wp_sheets.specs.Roots.{root_line}
use Rattle.wp_planner.specs.Terms.{Terms, budget_of}

-- duals of its own that the root of a tree has
abbrev pub root_duals : List Node → Option (List ℕ)
root_duals [] = None
root_duals (node.Leaf (Some own) ∷ rest) = Some own.duals
root_duals (node.Leaf None ∷ rest) = None
root_duals (node.Split first second (Some own) ∷ rest) = Some own.duals
root_duals (node.Split first second None ∷ rest) = None
root_duals (node.Dead order ∷ rest) = None

-- how many rounds the budget of a plan pays for: one for each node with duals of its own for which it would
abbrev pub rounds_of : WavePicks → Terms → ℕ
rounds_of wave terms = budget_of (length wave.orders) terms / price (length wave.orders) terms.capacity

-- What a bracket of a wave's linear bound shows: a fractional cover and feasible duals over one denominator, of which
-- no fractional cover costs less than the low side, and the linear bound isn't above the high one. The low one is no
-- lower than the share duals. Its state has its cause, and rounds are wanting only where there are more permitted
-- batches.
pub record IsBracketOf (wave : WavePicks) (capacity rounds : ℕ) (root : Root) : Type 0 where
  pub is : IsRoot wave (pairs_of wave capacity) rounds root
  pub below : IsBelowCovers wave (pairs_of wave capacity) root.low root.denominator
  pub above : (cost denominator : ℤ) → IsLinearBound wave (pairs_of wave capacity) cost denominator
      → (cost *ℤ root.denominator) ≤ℤ (root.high *ℤ denominator)
  pub shares : ReachesShares wave capacity root
  pub few : (made : ℕ) (all : List (List ℕ)) → root.state ≡ state.Rounds made
      → HasPermitted (pairs_of wave capacity) all → made < length all

-- where the terms ask for it there is a bracket of a wave, and else there is none
abbrev pub IsRootFor : Terms → WavePicks → Option Root → Type 0
IsRootFor terms wave None = terms.root ≡ false
IsRootFor terms wave (Some root) = (terms.root ≡ true) × IsBracketOf wave terms.capacity (rounds_of wave terms) root

-- a bracket in this state is narrow
abbrev pub is_narrow : RootState → Bool
is_narrow state.Narrow = true
is_narrow other = false

-- the line of a bracket, if there is one
abbrev pub root_text : Option Root → List ℕ
root_text None = []
root_text (Some root) = root_line (record {
  low = root.low;
  high = root.high;
  denominator = root.denominator;
  narrow = is_narrow root.state;
})
