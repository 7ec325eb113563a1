-- Trees of summaries over 64 aisles: node 1 is the root, nodes 2k and 2k + 1 are below node k, and aisle a is at node
-- 63 + a.
use Rattle.std.specs.Prelude.{◌≡◌, ℕ, ◌+◌, ◌*◌, ◌≤◌, Bool, false, List, IfSome, slice_index_or}
use Rattle.wp_model.specs.declared.point.Point.{Point}
use Rattle.wp_model.specs.Limits.{most_aisles}
use Rattle.wp_model.specs.Warehouse.{IsUpTo, Layout}
use Rattle.wp_graph.specs.PickSets.{AreSlots, PickSet}
use Rattle.wp_classes.specs.declared.class.Class.{Class}
use Rattle.wp_fast.specs.declared.summary.Summary.{Summary}
use Rattle.wp_fast.specs.Passages.{AreLeast, IsComposed}
use Rattle.wp_fast.specs.Runs.{PastAisle}
use Rattle.wp_fast.specs.Summaries.{length_between}

-- whether a node is marked
abbrev pub is_marked : List Bool → ℕ → Bool
is_marked marks node = slice_index_or marks node false

-- a node's summary is what it was
abbrev pub IsKeptAt : List Summary → List Summary → ℕ → Type 0
IsKeptAt old new node = (d : Summary) → slice_index_or new node d ≡ slice_index_or old node d

-- a node's summary is composed of those below it
abbrev pub IsComposedAt : List Summary → ℕ → Type 0
IsComposedAt tree node = (d : Summary)
    → IsComposed (slice_index_or tree (2 * node) d) (slice_index_or tree (2 * node + 1) d) (slice_index_or tree node d)

-- so is each node's above those of the aisles
abbrev pub AreComposed : List Summary → Type 0
AreComposed tree = (node : ℕ) → IsUpTo 63 node → IsComposedAt tree node

-- a length times its node's number is at most 128 times the greatest length past an aisle: so a sum of two lengths
-- below a node is small enough for the node
abbrev pub AreSmall : List Summary → Type 0
AreSmall tree = (node : ℕ) (d : Summary) (before after : Class) → IsUpTo 127 node
    → IfSome (length_between (slice_index_or tree node d) before after) (λ t. t * node ≤ 519680000)

-- the summary at an aisle's node is that of the aisle
abbrev pub IsPastAisleAt : Layout → List Point → List Summary → ℕ → Type 0
IsPastAisleAt layout picks tree aisle = (d : Summary)
    → AreLeast (PastAisle layout picks aisle) (slice_index_or tree (63 + aisle) d)

-- a tree whose aisles have the least lengths past them
pub record IsTree (layout : Layout) (picks : List Point) (tree : List Summary) : Type 0 where
  pub composed : AreComposed tree
  pub small : AreSmall tree
  pub aisles : (aisle : ℕ) → IsUpTo most_aisles aisle → IsPastAisleAt layout picks tree aisle

-- the same but for the marked aisles
pub record IsTreeBut (layout : Layout) (picks : List Point) (marks : List Bool) (tree : List Summary) : Type 0 where
  pub composed : AreComposed tree
  pub small : AreSmall tree
  pub aisles : (aisle : ℕ) → IsUpTo most_aisles aisle → is_marked marks (63 + aisle) ≡ false
      → IsPastAisleAt layout picks tree aisle

-- a tree for the slots of a set
pub record IsTreeFor (layout : Layout) (picks : PickSet) (summaries : List Summary) : Type 0 where
  pub layout_is : picks.layout ≡ layout
  pub slots : AreSlots layout picks.points
  pub tree : IsTree layout picks.points summaries
