-- Subtrees of the search: their nodes, their bounds, and what holds of them.
use Rattle.std.specs.Prelude.{◌≡◌, ℕ, ◌+◌, ◌≤◌, ⊤, true, false, List, [], ◌∷◌, ◌++◌, Option, Some, None, reverse, sum}
use Rattle.std.specs.List.{flat_map}
use Rattle.wp_pairs.specs.Permitted.{AreUndecided, IsDead, Pairing}
use Rattle.wp_lengths.specs.Waves.{WavePicks}
use Rattle.wp_cert.specs.Terms.{plain_terms}
use Rattle.wp_cert.specs.Trees.{IsRightOwn, lower_of, with_pair}
use Rattle.wp_cert.specs.declared.tree.Node.{Node}
use Rattle.wp_cert.specs.declared.tree.Node.TheVariants as node
use Rattle.wp_lengths.specs.Duals.{AreDuals, units_of}
use Rattle.wp_price.specs.ShortMarks.{AreShortMarks}
use Rattle.wp_node.specs.Owns.{as_own}
use Rattle.wp_search.specs.declared.branch.Branch.{Branch}
use Rattle.wp_search.specs.declared.branch.Branch.TheVariants.{Leaf, Dead, Split'}
use Rattle.wp_search.specs.declared.branch.Cut.{Cut}
use Rattle.wp_node.specs.declared.work.Worked.{Worked}

-- the bound of duals that a node has of its own
abbrev pub own_bound : Worked → ℕ
own_bound worked = units_of (sum worked.own.duals)

-- the nodes of a subtree in preorder, the one with the pair together first
abbrev pub nodes_of : Branch → List Node
nodes_of (Leaf None) = node.Leaf None ∷ []
nodes_of (Leaf (Some worked)) = node.Leaf (Some (as_own worked.own)) ∷ []
nodes_of (Dead order) = node.Dead order ∷ []
nodes_of (Split' cut p together q apart)
    = node.Split cut.first cut.second (Some (as_own cut.worked.own)) ∷ (nodes_of together ++ nodes_of apart)

-- a leaf that isn't dead
abbrev pub IsLeaf : Branch → Type 0
IsLeaf (Leaf own) = ⊤
IsLeaf (Dead order) = ⊥
IsLeaf (Split' cut p together q apart) = ⊥

-- the nodes of a stack of subtrees, from its top down: its top is the list's end
abbrev pub stacked_nodes : List Branch → List Node
stacked_nodes stack = flat_map nodes_of (reverse stack)

-- the least bound of the leaves that aren't dead, below a node whose duals give this bound
abbrev pub bound_of : ℕ → Branch → Option ℕ
bound_of above (Leaf None) = Some above
bound_of above (Leaf (Some worked)) = Some (own_bound worked)
bound_of above (Dead order) = None
bound_of above (Split' cut p together q apart)
    = lower_of (bound_of (own_bound cut.worked) together) (bound_of (own_bound cut.worked) apart)

-- a subtree's bound can be told at once: a leaf's from its duals, and a node that is split keeps it
abbrev pub HasBound : Branch → Type 0
HasBound (Leaf leaf) = ⊤
HasBound (Dead order) = ⊤
HasBound (Split' cut p together q apart) =
    cut.least ≡ lower_of (bound_of (own_bound cut.worked) together) (bound_of (own_bound cut.worked) apart)

-- what a node has of its own is right, its duals are within their range, and its marks are the short ones
pub record IsWorked (wave : WavePicks) (pairing : Pairing) (above : ℕ) (worked : Worked) : Type 0 where
  pub right : IsRightOwn (plain_terms wave) pairing above (as_own worked.own)
  pub duals : AreDuals worked.own.duals
  pub short : AreShortMarks wave pairing worked.own.duals worked.own.marks

-- a node that is split has duals of its own, and is split on an undecided pair
pub record IsCut (wave : WavePicks) (pairing : Pairing) (above : ℕ) (cut : Cut) : Type 0 where
  pub worked : IsWorked wave pairing above cut.worked
  pub parts : AreUndecided pairing cut.first cut.second

-- A subtree is right below duals that come to this.
abbrev pub IsBranch : WavePicks → Pairing → ℕ → Branch → Type 0
IsBranch wave pairing above (Leaf None) = ⊤
IsBranch wave pairing above (Leaf (Some worked)) = IsWorked wave pairing above worked
IsBranch wave pairing above (Dead order) = IsDead pairing order
IsBranch wave pairing above (Split' cut p together q apart) =
    IsCut wave pairing above cut × (cut.least
    ≡ lower_of (bound_of (own_bound cut.worked) together) (bound_of (own_bound cut.worked) apart))
    × IsBranch wave (with_pair pairing cut.first cut.second true) (sum cut.worked.own.duals) together
    × IsBranch wave (with_pair pairing cut.first cut.second false) (sum cut.worked.own.duals) apart

-- how many nodes have duals of their own
abbrev pub own_count : Branch → ℕ
own_count (Leaf None) = 0
own_count (Leaf (Some worked)) = 1
own_count (Dead order) = 0
own_count (Split' cut p together q apart) = own_count together + own_count apart + 1

-- the bound of each node that is split is at most this
abbrev pub AreCutsWithin : ℕ → Branch → Type 0
AreCutsWithin bound (Leaf leaf) = ⊤
AreCutsWithin bound (Dead order) = ⊤
AreCutsWithin bound (Split' cut p together q apart)
    = (own_bound cut.worked ≤ bound) × AreCutsWithin bound together × AreCutsWithin bound apart

-- how many turns its leaves may still take, but for those that the budget pays: one for a kept leaf, and for one with
-- duals of its own three, since it may be split into two kept leaves
abbrev pub turns_left : Branch → ℕ
turns_left (Leaf None) = 1
turns_left (Leaf (Some worked)) = 3
turns_left (Dead order) = 0
turns_left (Split' cut p together q apart) = turns_left together + turns_left apart

-- a node that was just split has two leaves that keep its duals
abbrev pub IsFreshSplit : Cut → Branch → Type 0
IsFreshSplit cut (Split' this p together q apart) = (this ≡ cut) × (together ≡ Leaf None) × (apart ≡ Leaf None)
IsFreshSplit cut branch = ⊥
