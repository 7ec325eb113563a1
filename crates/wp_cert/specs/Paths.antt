-- Paths from the root of a tree to a node: the pairs of the splits on the way.
use Rattle.std.specs.Prelude.{◌≡◌, ℕ, ◌+◌, ◌<◌, ◌⊎◌, List, ◌∷◌, Option, Some, length, drop, take, slice_index_or}
use Rattle.wp_pairs.specs.declared.pair.OrderPair.{OrderPair}
use Rattle.wp_pairs.specs.Permitted.{AreUndecided, Pairing}
use Rattle.wp_lengths.specs.Waves.{WavePicks}
use Rattle.wp_cert.specs.declared.tree.CertFault.{CertFault}
use Rattle.wp_cert.specs.declared.tree.CertWhy.TheVariants as why
use Rattle.wp_cert.specs.declared.tree.CertWhy.{CertWhy}
use Rattle.wp_cert.specs.declared.tree.Node.{Node}
use Rattle.wp_cert.specs.declared.tree.Own.{Own}
use Rattle.wp_cert.specs.Terms.{Terms, net_of}
use Rattle.wp_cert.specs.Trees.{IsRight, IsRightOwn}
use Rattle.wp_cert.specs.Refusals.{IsBroken}

-- the orders of a wave, its cart, such a capacity, and these pairs
abbrev pub pairing_of : WavePicks → ℕ → List OrderPair → Pairing
pairing_of wave capacity pairs = record {
  orders = length wave.orders;
  capacity = capacity;
  cart = wave.cart;
  pairs = pairs;
}

-- each pair of a path was undecided by those before it
pub record IsPath (wave : WavePicks) (capacity : ℕ) (pairs : List OrderPair) : Type 0 where
  pub each : (k : ℕ) (d : OrderPair) → k < length pairs
      → AreUndecided (pairing_of wave capacity (take k pairs)) (slice_index_or pairs k d).first
      (slice_index_or pairs k d).second

-- a split has prices of its own, which are right and whose net is this, and is on an undecided pair
pub record IsRightSplit (terms : Terms) (pairing : Pairing) (above first second : ℕ) (given : Option Own)
    (total : ℕ) : Type 0 where
  pub own : Own
  pub is : given ≡ Some own
  pub right : IsRightOwn terms pairing above own
  pub parts : AreUndecided pairing first second
  pub sums : total ≡ net_of terms own

-- a node breaks this rule, whatever follows it
abbrev pub IsBrokenHere : Terms → Pairing → ℕ → Node → CertWhy → Type 0
IsBrokenHere terms pairing above here fault
    = (rest : List Node) → IsBroken terms pairing above (here ∷ rest) (here ∷ rest) fault

-- a fault is this, or memory is wanted
abbrev pub ButForMemory : (CertWhy → Type 0) → CertWhy → Type 0
ButForMemory tells fault = (fault ≡ why.Memory → ⊥) → tells fault

-- a tree that begins at a place of the list is refused with this fault, or memory is wanted
abbrev pub IsRefusedFrom : Terms → Pairing → ℕ → List Node → ℕ → CertFault → Type 0
IsRefusedFrom terms pairing above nodes at fault =
    (fault.why ≡ why.Memory → ⊥) → (left : List Node) × IsBroken terms pairing above (drop at nodes) left fault.why
    × (fault.node + length left ≡ length nodes)

-- nodes are left after a tree that is right: that is a cut at the first of them
pub record IsLeftOver (terms : Terms) (pairing : Pairing) (above : ℕ) (nodes : List Node) (fault : CertFault)
    : Type 0 where
  pub left : List Node
  pub bound : Option ℕ
  pub right : IsRight terms pairing above nodes left bound
  pub some : 0 < length left
  pub at : fault.node + length left ≡ length nodes
  pub because : fault.why ≡ why.Cut

-- a whole tree is refused with this fault, or memory is wanted
abbrev pub IsRefusedWhole : Terms → Pairing → ℕ → List Node → CertFault → Type 0
IsRefusedWhole terms pairing above nodes fault = (fault.why ≡ why.Memory → ⊥)
    → IsRefusedFrom terms pairing above nodes 0 fault ⊎ IsLeftOver terms pairing above nodes fault
