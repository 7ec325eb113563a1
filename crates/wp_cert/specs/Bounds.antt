-- What the bound of a right tree says.
use Rattle.std.specs.Prelude.{◌≡◌, ℕ, ◌<◌, ◌≤◌, Err, List, All, length}
use Rattle.std.specs.List.Sorted.{IsStrictlyIncreasing}
use Rattle.wp_model.specs.Warehouse.{Layout}
use Rattle.wp_graph.specs.PickSets.{AreSlots}
use Rattle.wp_lengths.specs.Batchings.{IsBatching, IsCost}
use Rattle.wp_lengths.specs.Waves.{IsWave, WavePicks, picks_of}
use Rattle.wp_cert.specs.declared.tree.Tree.{Tree}
use Rattle.wp_cert.specs.declared.tree.CertFault.{CertFault}
use Rattle.wp_cert.specs.declared.tree.CertWhy.{CertWhy}
use Rattle.wp_cert.specs.Refusals.{IsFirstBroken}
use Rattle.wp_cert.specs.Text.{IsSame, Tells, certificate_said}
use Rattle.wp_cert.specs.TextData.{HaveDualsWithin, HaveSlots, certificate_text}
use Rattle.wp_cert.specs.Trees.{IsBoundOf}
use Rattle.wp_cert.specs.Visited.{HasEachLength}
use Rattle.wp_cert.specs.Walks.{ArePutIntoBatches, NoWalksAreShorter}

-- no batching of the wave within the capacity costs less than this
abbrev pub NoBatchingCostsLess : WavePicks → ℕ → ℕ → Type 0
NoBatchingCostsLess wave capacity bound = (batches : List (List ℕ)) (cost : ℕ) → IsBatching wave capacity batches
    → IsCost wave batches cost
    → bound ≤ cost

-- the bound of a right tree is such a number
abbrev pub BoundsHold : Type 0
BoundsHold = (wave : WavePicks) (capacity : ℕ) (tree : Tree) (bound : ℕ) → 1 ≤ capacity
    → IsBoundOf wave capacity tree bound
    → NoBatchingCostsLess wave capacity bound

-- orders that are put into batches, each in ascending order, are a batching
abbrev pub PutBatchesAreBatchings : Type 0
PutBatchesAreBatchings = (wave : WavePicks) (capacity : ℕ) (batches : List (List ℕ))
    → ArePutIntoBatches wave capacity batches
    → All IsStrictlyIncreasing batches → IsBatching wave capacity batches

-- carts walk no less than the bound of a right tree
abbrev pub WalksAreNoShorter : Type 0
WalksAreNoShorter = (wave : WavePicks) (capacity : ℕ) (tree : Tree) (bound : ℕ) → 1 ≤ capacity
    → IsBoundOf wave capacity tree bound
    → NoWalksAreShorter wave capacity bound

-- where carts walk no less than a number, no batching costs less
abbrev pub CostsAreWalked : Type 0
CostsAreWalked = (wave : WavePicks) (capacity bound : ℕ) → NoWalksAreShorter wave capacity bound
    → NoBatchingCostsLess wave capacity bound

-- a tree that is right has no broken rule
abbrev pub RightTreesBreakNoRule : Type 0
RightTreesBreakNoRule = (wave : WavePicks) (capacity : ℕ) (tree : Tree) (bound : ℕ) (fault : CertFault)
    → IsBoundOf wave capacity tree bound
    → IsFirstBroken wave capacity tree fault → ⊥

-- and it has one bound
abbrev pub RightTreesHaveOneBound : Type 0
RightTreesHaveOneBound = (wave : WavePicks) (capacity : ℕ) (tree : Tree) (one other : ℕ)
    → IsBoundOf wave capacity tree one
    → IsBoundOf wave capacity tree other → one ≡ other

-- a tree breaks one rule first, at one node
abbrev pub TreesBreakOneRuleFirst : Type 0
TreesBreakOneRuleFirst = (wave : WavePicks) (capacity : ℕ) (tree : Tree) (one other : CertFault)
    → IsFirstBroken wave capacity tree one
    → IsFirstBroken wave capacity tree other → one ≡ other

-- each batch of a wave, some orders of it, has a length, where each order picks at slots of the layout
abbrev pub BatchesHaveLengths : Type 0
BatchesHaveLengths = (wave : WavePicks) → 0 < length wave.orders
    → ((order : ℕ) → order < length wave.orders → AreSlots wave.layout (picks_of wave order)) → HasEachLength wave

-- the text of a certificate tells a wave of the layout, a capacity and a tree that is right, with this bound
pub record TellsBound (layout : Layout) (text : List ℕ) (bound : ℕ) : Type 0 where
  pub wave : WavePicks
  pub capacity : ℕ
  pub tree : Tree
  pub told : Tells layout text wave capacity tree
  pub right : IsBoundOf wave capacity tree bound

-- of two waves that pick at the same slots and have the same cart, capacity and tree, the bounds are the same
abbrev pub SameWavesHaveOneBound : Type 0
SameWavesHaveOneBound = (wave other : WavePicks) (capacity further : ℕ) (tree another : Tree) (bound found : ℕ)
    → IsSame wave other capacity further tree another → IsBoundOf wave capacity tree bound
    → IsBoundOf other further another found → bound ≡ found

-- a text tells one bound
abbrev pub TextsTellOneBound : Type 0
TextsTellOneBound = (layout : Layout) (text : List ℕ) (bound found : ℕ) → TellsBound layout text bound
    → TellsBound layout text found → bound ≡ found

-- a text that tells a bound is read, and the tree that it tells breaks no rule
abbrev pub TextsWithABoundAreAccepted : Type 0
TextsWithABoundAreAccepted = (layout : Layout) (text : List ℕ) (bound : ℕ) → TellsBound layout text bound
    → ((why : CertWhy) → certificate_said layout text ≡ Err why → ⊥)
    × ((wave : WavePicks) (capacity : ℕ) (tree : Tree) (fault : CertFault) → Tells layout text wave capacity tree
    → IsFirstBroken wave capacity tree fault → ⊥)

-- the text that is printed of a wave, a capacity and a right tree tells the tree's bound
abbrev pub PrintedTextsTellTheBound : Type 0
PrintedTextsTellTheBound = (wave : WavePicks) (capacity : ℕ) (tree : Tree) (bound : ℕ) → IsWave wave
    → HaveSlots wave.layout wave.orders → 1 ≤ capacity
    → capacity ≤ 8 → HaveDualsWithin tree → IsBoundOf wave capacity tree bound
    → TellsBound wave.layout (certificate_text wave capacity tree) bound
