-- Ways from the root of a tree to the node that is due: a check goes along them from node to node.
use Rattle.std.specs.Prelude.{◌≡◌, ℕ, ◌+◌, true, false, List, [], ◌∷◌, ◌++◌, Option, Some, drop, slice_get}
use Rattle.wp_pairs.specs.declared.pair.OrderPair.{OrderPair}
use Rattle.wp_pairs.specs.Permitted.{Pairing}
use Rattle.wp_cert.specs.declared.tree.Node.{Node}
use Rattle.wp_cert.specs.declared.tree.Node.TheVariants as node
use Rattle.wp_cert.specs.declared.tree.Own.{Own}
use Rattle.wp_cert.specs.declared.way.Met.{Met}
use Rattle.wp_cert.specs.declared.way.Met.TheVariants as met
use Rattle.wp_cert.specs.declared.way.Note.{Note}
use Rattle.wp_cert.specs.declared.way.NodeStep.{NodeStep}
use Rattle.wp_cert.specs.declared.way.NodeStep.TheVariants as step
use Rattle.wp_cert.specs.declared.way.SplitWay.{SplitWay}
use Rattle.wp_cert.specs.Paths.{IsRightSplit, pairing_of}
use Rattle.wp_cert.specs.Terms.{Terms}
use Rattle.wp_cert.specs.Trees.{IsRight, with_pair}

-- a node is a split on the orders of a pair, and right but for its subtrees; the net of its prices is this
pub record IsSplit (terms : Terms) (pairing : Pairing) (above : ℕ) (here : Node) (pair : OrderPair)
    (total : ℕ) : Type 0 where
  pub given : Option Own
  pub is : here ≡ node.Split pair.first pair.second given
  pub right : IsRightSplit terms pairing above pair.first pair.second given total

-- The way to a node of a list. Each split on it is right; where its second subtree is due, the first one is right too,
-- and its bound is noted. The net above the node is the number that is given.
pub data IsWay (terms : Terms) (capacity : ℕ) (nodes : List Node) (shares : ℕ) : List OrderPair → List Note → ℕ → ℕ
    → Type 0 where
  at_root : IsWay terms capacity nodes shares [] [] shares 0
  in_first : {path pairs : List OrderPair} {notes others : List Note} {pair : OrderPair} {here : Node} {above at : ℕ}
      (note : Note)
      → IsWay terms capacity nodes shares path notes above at → slice_get nodes at ≡ Some here
      → IsSplit terms (pairing_of terms.wave capacity path) above here pair note.total → pair.together ≡ true
      → pairs ≡ path ++ pair ∷ [] → others ≡ notes ++ note ∷ []
      → IsWay terms capacity nodes shares pairs others note.total (at + 1)
  in_second : {path pairs : List OrderPair} {notes others : List Note} {pair : OrderPair} {here : Node} {above at
      between : ℕ} (note : Note)
      → IsWay terms capacity nodes shares path notes above at → slice_get nodes at ≡ Some here
      → IsSplit terms (pairing_of terms.wave capacity path) above here pair note.total → pair.together ≡ false
      → IsRight terms (with_pair (pairing_of terms.wave capacity path) pair.first pair.second true) note.total
      (drop (at + 1) nodes)
      (drop between nodes) note.first
      → pairs ≡ path ++ pair ∷ [] → others ≡ notes ++ note ∷ []
      → IsWay terms capacity nodes shares pairs others note.total between

-- the subtree at the end of a way is right, and ends before the node at a place; this is its bound
pub record IsDone (terms : Terms) (capacity : ℕ) (nodes : List Node) (shares : ℕ) (pairs : List OrderPair)
    (notes : List Note) (next : ℕ) (bound : Option ℕ)
    : Type 0 where
  pub above : ℕ
  pub at : ℕ
  pub way : IsWay terms capacity nodes shares pairs notes above at
  pub right : IsRight terms (pairing_of terms.wave capacity pairs) above (drop at nodes) (drop next nodes) bound

-- a node leads to its first subtree, or out of its own, whatever nodes follow
abbrev pub IsStep : Terms → Pairing → ℕ → Node → NodeStep → Type 0
IsStep terms pairing above here (step.Into pair total)
    = IsSplit terms pairing above here pair total × (pair.together ≡ true)
IsStep terms pairing above here (step.Out bound)
    = (rest : List Node) → IsRight terms pairing above (here ∷ rest) rest bound

-- the way leads on to the node at a place, or the tree is right and ends before it
abbrev pub IsMet : Terms → ℕ → List Node → ℕ → ℕ → SplitWay → Met → Type 0
IsMet terms capacity nodes shares next way met.Onward
    = IsWay terms capacity nodes shares way.path.items way.notes.items way.above next
IsMet terms capacity nodes shares next way (met.Whole bound) =
    IsRight terms (pairing_of terms.wave capacity []) shares nodes (drop next nodes) bound

-- leaving the subtree at the end of a way, which has this bound, leads on from one way to another
abbrev pub LeavesTo : SplitWay → Option ℕ → SplitWay → Met → Type 0
LeavesTo way shown then met = (terms : Terms) (capacity shares at next : ℕ) (nodes : List Node)
    → IsWay terms capacity nodes shares way.path.items way.notes.items way.above at
    → IsRight terms (pairing_of terms.wave capacity way.path.items) way.above (drop at nodes) (drop next nodes) shown
    → IsMet terms capacity nodes shares next then met

-- what a node leads to, which is the node at the end of a way, leads on from one way to another
abbrev pub GoesTo : SplitWay → NodeStep → SplitWay → Met → Type 0
GoesTo way step then met = (terms : Terms) (capacity shares at : ℕ) (nodes : List Node) (here : Node)
    → IsWay terms capacity nodes shares way.path.items way.notes.items way.above at → slice_get nodes at ≡ Some here
    → IsStep terms (pairing_of terms.wave capacity way.path.items) way.above here step
    → IsMet terms capacity nodes shares (at + 1) then met
