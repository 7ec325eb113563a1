-- The batching by savings (Clarke and Wright, 1964), which a start costs no more than: orders that begin alone are
-- joined, each time by a join that saves most.
use Rattle.std.specs.Prelude.{◌≡◌, ℕ, ◌<◌, ◌⊎◌, ◌↔◌, List, Contains, length, remove, set}
use Rattle.wp_batch.specs.declared.merge.Join.{Join}
use Rattle.wp_batch.specs.Joins.{CanJoin, CostNoMore, NoJoinGains, SavesAtMost}
use Rattle.wp_lengths.specs.Batchings.{batch_at}
use Rattle.wp_lengths.specs.Waves.{WavePicks}

-- so many orders, each of which is a batch alone
pub record AreAlone (orders : ℕ) (batches : List (List ℕ)) : Type 0 where
  pub count : length batches ≡ orders
  pub own : (order other : ℕ) → order < orders → (Contains (batch_at batches order) other ↔ (other ≡ order))

-- a join of two batches that fit into one and cost less as one, and no two save more
pub record IsGreatestJoin (wave : WavePicks) (capacity : ℕ) (batches : List (List ℕ)) (join : Join) : Type 0 where
  pub some : 0 < join.saving
  pub can : CanJoin wave capacity batches join
  pub most : (left right : ℕ) → left < right → right < length batches
      → SavesAtMost wave capacity (batch_at batches left) (batch_at batches right) join.saving

-- two batches are one: the orders of the later one go to the earlier
pub record IsJoined (before : List (List ℕ)) (join : Join) (after : List (List ℕ)) : Type 0 where
  pub union : List ℕ
  pub of_both : (order : ℕ) → Contains union order
      ↔ (Contains (batch_at before join.left) order ⊎ Contains (batch_at before join.right) order)
  pub is : after ≡ remove (set before join.left union) join.right

-- batches to which such joins lead, each of which saves most
pub data AreMerged (wave : WavePicks) (capacity : ℕ) (first : List (List ℕ)) : List (List ℕ) → Type 0 where
  begun : AreMerged wave capacity first first
  onward : {before after : List (List ℕ)} → AreMerged wave capacity first before → (join : Join)
      → IsGreatestJoin wave capacity before join
      → IsJoined before join after → AreMerged wave capacity first after

-- a batching by savings: joins that save most lead to it from orders that are alone, and no further join saves
pub record IsBySavings (wave : WavePicks) (capacity : ℕ) (batches : List (List ℕ)) : Type 0 where
  pub alone : List (List ℕ)
  pub are_alone : AreAlone (length wave.orders) alone
  pub merged : AreMerged wave capacity alone batches
  pub joined : NoJoinGains wave capacity batches

-- batches cost no more than some batching by savings
abbrev pub CostNoMoreThanSavings : WavePicks → ℕ → List (List ℕ) → Type 0
CostNoMoreThanSavings wave capacity batches
    = (plain : List (List ℕ)) × IsBySavings wave capacity plain × CostNoMore wave plain batches
