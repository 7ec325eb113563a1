-- Why a tree is refused: the first broken rule, in preorder of the nodes, and within a node in the order of its tests.
use Rattle.std.specs.Prelude.{◌≡◌, ℕ, ◌+◌, ◌<◌, ◌≤◌, ◌⊎◌, Bool, true, false, List, [], ◌∷◌, Option, Some, None, length}
use Rattle.wp_pairs.specs.Permitted.{AreUndecided, IsDead, Pairing}
use Rattle.wp_lengths.specs.Batchings.{no_pairs}
use Rattle.wp_lengths.specs.Waves.{WavePicks}
use Rattle.wp_lengths.specs.Duals.{IsSumOfShares}
use Rattle.wp_lengths.specs.Visits.{Due, Passed, TooMuch, Wrong}
use Rattle.wp_cuts.specs.Cuts.{CutParts}
use Rattle.wp_cuts.specs.Prices.{ArePlain}
use Rattle.wp_cert.specs.declared.tree.CertFault.{CertFault}
use Rattle.wp_cert.specs.declared.tree.CertWhy.{CertWhy}
use Rattle.wp_cert.specs.declared.tree.CertWhy.TheVariants as why
use Rattle.wp_cert.specs.declared.tree.Node.{Node}
use Rattle.wp_cert.specs.declared.tree.Node.TheVariants as node
use Rattle.wp_cert.specs.declared.tree.Own.{Own}
use Rattle.wp_cert.specs.declared.tree.Tree.{Tree}
use Rattle.wp_cert.specs.Terms.{AreCuts, AreTermsFor, Terms, net_of, prices_of, terms_of}
use Rattle.wp_cert.specs.Trees.{ArePricesAllowed, HasAll, IsDecided, IsMarkedVisit, IsRight, IsRightOwn, IsTightAt}
use Rattle.wp_cert.specs.Trees.{IsVisitOfAll, with_pair}

-- a visit ends with this refusal
abbrev pub IsRefusedVisit : Terms → Pairing → Own → Due → List Bool → CertWhy → Type 0
IsRefusedVisit terms pairing own due marks (why.NotFeasible batch)
    = IsMarkedVisit terms pairing own due marks (TooMuch batch)
IsRefusedVisit terms pairing own due marks why.BadMarks = IsMarkedVisit terms pairing own due marks Wrong
IsRefusedVisit terms pairing own due marks _ = ⊥

-- the marks of a node are refused: a visited batch pays too much; or a mark is missing or doesn't hold, or marks are
-- left
abbrev pub AreRefused : Terms → Pairing → Own → CertWhy → Type 0
AreRefused terms pairing own (why.NotFeasible batch) = IsVisitOfAll terms pairing own (TooMuch batch)
AreRefused terms pairing own why.BadMarks =
    IsVisitOfAll terms pairing own Wrong
    ⊎ ((left : List Bool) × IsVisitOfAll terms pairing own (Passed left) × (0 < length left))
AreRefused terms pairing own _ = ⊥

-- the first order whose batch isn't tight for it
pub record IsFirstSlack (terms : Terms) (pairing : Pairing) (own : Own) (order : ℕ) : Type 0 where
  pub known : order < pairing.orders
  pub before : (lower : ℕ) → lower < order → IsTightAt terms pairing own lower
  pub slack : IsTightAt terms pairing own order → ⊥

-- What a node has of its own breaks this rule, and none that is tested before: one dual and one tight batch for each
-- order, and one price for each cut; plain prices where all is decided; a net no less than that of the node above;
-- marks that pass, with none left; the batches that are given are tight, order by order.
pub data IsBrokenOwn (terms : Terms) (pairing : Pairing) (above : ℕ) (own : Own) : CertWhy → Type 0 where
  not_all : (HasAll terms pairing own → ⊥) → IsBrokenOwn terms pairing above own why.DualsLength
  decided : HasAll terms pairing own → IsDecided pairing → (ArePlain (prices_of own) → ⊥)
      → IsBrokenOwn terms pairing above own why.DecidedPrices
  low : HasAll terms pairing own → ArePricesAllowed pairing own → net_of terms own < above
      → IsBrokenOwn terms pairing above own why.SumLow
  marks : {fault : CertWhy} → HasAll terms pairing own → ArePricesAllowed pairing own → above ≤ net_of terms own
      → AreRefused terms pairing own fault
      → IsBrokenOwn terms pairing above own fault
  not_tight : {order : ℕ} → HasAll terms pairing own → ArePricesAllowed pairing own → above ≤ net_of terms own
      → IsVisitOfAll terms pairing own (Passed [])
      → IsFirstSlack terms pairing own order → IsBrokenOwn terms pairing above own (why.NotTight order)

-- The tree that is due first in a list of nodes breaks this rule, and none that is tested before, at the first of the
-- nodes that are left: the list ends where a
-- node is due; a dead leaf names no order that no permitted batch has; a split has nothing of its own; what a node has
-- of its own breaks a rule; a split is on no undecided pair; or the broken rule is in the tree with the pair together
-- or, if that one is right, in the tree with it apart.
pub data IsBroken (terms : Terms) : Pairing → ℕ → List Node → List Node → CertWhy → Type 0 where
  cut : {pairing : Pairing} {above : ℕ} → IsBroken terms pairing above [] [] why.Cut
  not_dead : {pairing : Pairing} {above order : ℕ} {rest : List Node} → (IsDead pairing order → ⊥)
      → IsBroken terms pairing above (node.Dead order ∷ rest) (node.Dead order ∷ rest) (why.NotDead order)
  kept_split : {pairing : Pairing} {above first second : ℕ} {rest : List Node}
      → IsBroken terms pairing above (node.Split first second None ∷ rest)
      (node.Split first second None ∷ rest) why.SplitKept
  own_leaf : {pairing : Pairing} {above : ℕ} {own : Own} {rest : List Node} {fault : CertWhy}
      → IsBrokenOwn terms pairing above own fault
      → IsBroken terms pairing above (node.Leaf (Some own) ∷ rest) (node.Leaf (Some own) ∷ rest) fault
  own_split : {pairing : Pairing} {above first second : ℕ} {own : Own} {rest : List Node} {fault : CertWhy}
      → IsBrokenOwn terms pairing above own fault
      → IsBroken terms pairing above (node.Split first second (Some own) ∷ rest)
      (node.Split first second (Some own) ∷ rest) fault
  bad_pair : {pairing : Pairing} {above first second : ℕ} {own : Own} {rest : List Node}
      → IsRightOwn terms pairing above own
      → (AreUndecided pairing first second → ⊥)
      → IsBroken terms pairing above (node.Split first second (Some own) ∷ rest)
      (node.Split first second (Some own) ∷ rest) why.BadPair
  together : {pairing : Pairing} {above first second : ℕ} {own : Own} {nodes left : List Node} {fault : CertWhy}
      → IsRightOwn terms pairing above own
      → AreUndecided pairing first second → IsBroken terms (with_pair pairing first second true)
      (net_of terms own) nodes left fault
      → IsBroken terms pairing above (node.Split first second (Some own) ∷ nodes) left fault
  apart : {pairing : Pairing} {above first second : ℕ} {own : Own} {nodes between left : List
      Node} {bound : Option ℕ} {fault : CertWhy}
      → IsRightOwn terms pairing above own → AreUndecided pairing first second
      → IsRight terms (with_pair pairing first second true) (net_of terms own) nodes between bound
      → IsBroken terms (with_pair pairing first second false) (net_of terms own) between left fault
      → IsBroken terms pairing above (node.Split first second (Some own) ∷ nodes) left fault

-- a tree has cuts that aren't at most 64 cuts of so many orders
pub record IsBadCuts (orders : ℕ) (given : Option (List CutParts)) (fault : CertWhy) : Type 0 where
  pub cuts : List CutParts
  pub is : given ≡ Some cuts
  pub bad : AreCuts orders cuts → ⊥
  pub because : fault ≡ why.BadCuts

-- The first broken rule of a whole tree. The cuts come before all nodes: at most 64 are cuts of the wave's orders.
-- Nodes that are left after the tree is whole break a rule too. A fault's node is its number in the list; where the
-- list is cut, the number of its nodes.
pub data IsFirstBroken (wave : WavePicks) (capacity : ℕ) (tree : Tree) (fault : CertFault) : Type 0 where
  bad_cuts : IsBadCuts (length wave.orders) tree.cuts fault.why → fault.node ≡ 0
      → IsFirstBroken wave capacity tree fault
  in_tree : {step shares : ℕ} {left : List Node} → AreTermsFor wave tree.cuts step → IsSumOfShares wave capacity shares
      → IsBroken (terms_of wave capacity tree.cuts step) (no_pairs wave capacity) shares tree.nodes left fault.why
      → fault.node + length left ≡ length tree.nodes
      → IsFirstBroken wave capacity tree fault
  nodes_left : {step shares : ℕ} {left : List Node} {bound : Option ℕ} → AreTermsFor wave tree.cuts step
      → IsSumOfShares wave capacity shares
      → IsRight (terms_of wave capacity tree.cuts step) (no_pairs wave capacity) shares tree.nodes left bound
      → 0 < length left
      → fault.node + length left ≡ length tree.nodes
      → fault.why ≡ why.Cut → IsFirstBroken wave capacity tree fault
