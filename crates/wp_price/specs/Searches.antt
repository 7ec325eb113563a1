-- The search: the places that it comes to, and what it has found when it has visited all batches that extend a place.
use Rattle.std.specs.Prelude.{◌≡◌, ℕ, ◌+◌, ◌*◌, ◌<◌, ◌⊎◌, List, [], Option, Some, None, Result, Ok, IfSome, Contains}
use Rattle.std.specs.Prelude.{length, slice_index_or}
use Rattle.wp_pairs.specs.Kept.{IsPairing}
use Rattle.wp_pairs.specs.Permitted.{IsPermitted, Pairing}
use Rattle.wp_lengths.specs.Lengths.{IsLengthOf}
use Rattle.wp_lengths.specs.Waves.{WavePicks}
use Rattle.wp_lengths.specs.Duals.{AreDuals, duals_of, greatest_dual, sixtieths_of}
use Rattle.wp_lengths.specs.Visits.{IsItem}
use Rattle.wp_lengths.proofs.Visits.{Extends}
use Rattle.wp_price.specs.declared.best.LeastBatch.{LeastBatch}
use Rattle.wp_visit.specs.declared.step.Step.{Step}
use Rattle.wp_visit.specs.declared.step.Step.TheVariants as step
use Rattle.wp_visit.specs.Places.{IsNoChild, Task}
use Rattle.wp_price.specs.Bests.{IsBetterOf, IsNoWorse}
use Rattle.wp_price.specs.Shares.{IsDealt}

-- what is searched with: duals of a certificate, one for each order, for batches of at most eight orders
pub record HasDuals (task : Task) : Type 0 where
  pub duals : AreDuals task.duals
  pub count : length task.duals ≡ task.pairing.orders
  pub valid : IsPairing task.pairing

-- a task is of a wave and its duals
pub record IsSearchOf (task : Task) (wave : WavePicks) (duals : List ℕ) : Type 0 where
  pub same_wave : task.wave ≡ wave
  pub same_duals : task.duals ≡ duals
  pub orders : task.pairing.orders ≡ length task.wave.orders
  pub has : HasDuals task

-- by how much slacks are raised
abbrev pub raise : ℕ
raise = 8 * greatest_dual

-- the slack of a batch, raised
pub record IsRaised (task : Task) (batch : List ℕ) (raised : ℕ) : Type 0 where
  pub total : ℕ
  pub long : IsLengthOf task.wave batch total
  pub is : raised + duals_of task.duals batch ≡ sixtieths_of total + raise

-- all orders of a place that name items are below an order
abbrev pub NamesBelow : Pairing → List ℕ → ℕ → Type 0
NamesBelow pairing place from = (order : ℕ) → Contains place order → IsItem pairing order → order < from

-- a batch is no better than the best
abbrev pub IsBeaten : Task → Option LeastBatch → List ℕ → Type 0
IsBeaten task None batch = ⊥
IsBeaten task (Some best) batch = (raised : ℕ) → IsRaised task batch raised
    → IsNoWorse best (record { batch = batch; raised = raised })

-- a permitted batch that has all orders of a place, with its slack
pub record IsLeastFound (task : Task) (place : List ℕ) (best : LeastBatch) : Type 0 where
  pub permitted : IsPermitted task.pairing best.batch
  pub holds : (order : ℕ) → Contains place order → Contains best.batch order
  pub is : IsRaised task best.batch best.raised

-- The best after the search of all batches that extend a place: it is the old best or has all orders of the place, and
-- no batch that was no better than the old best is better than it, nor any that extends the place.
pub record IsSearched (task : Task) (place : List ℕ) (from : ℕ) (old best : Option LeastBatch) : Type 0 where
  pub found : IfSome best (λ (b : LeastBatch). (old ≡ Some b) ⊎ IsLeastFound task place b)
  pub kept : (batch : List ℕ) → IsBeaten task old batch → IsBeaten task best batch
  pub covered : (batch : List ℕ) → Extends task.pairing place from batch → IsBeaten task best batch

-- what extends a place with items from an order on is no better than the best, or has only items after the order
abbrev pub IsItemPast : Task → List ℕ → Option LeastBatch → ℕ → Type 0
IsItemPast task place best order = (batch : List ℕ) → Extends task.pairing place order batch
    → Extends task.pairing place (order + 1) batch ⊎ IsBeaten task best batch

-- The best after the search of the items that some orders name: it is the old best or has all orders of the place, and
-- no batch that was no better than the old best is better than it, nor any that extends the place with one of these
-- items first.
pub record AreItemsSearched (task : Task) (place : List ℕ) (orders : ℕ → Type 0)
    (old best : Option LeastBatch) : Type 0 where
  pub found : IfSome best (λ (b : LeastBatch). (old ≡ Some b) ⊎ IsLeastFound task place b)
  pub kept : (batch : List ℕ) → IsBeaten task old batch → IsBeaten task best batch
  pub past : (order : ℕ) → orders order → IsItemPast task place best order

-- each order of the wave is in the share of some worker, or names no first item of a place
abbrev pub AreSharesOf : Task → List ℕ → List (List ℕ) → Type 0
AreSharesOf task place shares = (order : ℕ) → order < task.pairing.orders → IsDealt shares order
    ⊎ IsNoChild task.pairing place order

-- the orders of a share that are orders of the wave
abbrev pub InShare : Task → List ℕ → ℕ → Type 0
InShare task share order = (order < task.pairing.orders) × Contains share order

-- what each worker found when it had searched the items of its share
abbrev pub AreSharesSearched : Task → List ℕ → List (List ℕ) → Option LeastBatch → List (Option LeastBatch) → Type 0
AreSharesSearched task place shares old found = (worker : ℕ) (d : Option LeastBatch) → worker < length shares
    → AreItemsSearched task place (InShare task (slice_index_or shares worker [])) old (slice_index_or found worker d)

-- The best when a place was entered: the better of the old best and the place with its slack. Where the search goes
-- past, no batch that extends the place is better.
pub record EntersBest {E : Type 0} (task : Task) (old : Option LeastBatch) (place : List ℕ) (from : ℕ)
    (answer : Result Step E) (new : Option LeastBatch) : Type 0 where
  pub next : LeastBatch
  pub is : new ≡ Some next
  pub raised : ℕ
  pub slack : IsRaised task place raised
  pub better : IsBetterOf old (record { batch = place; raised = raised }) next
  pub past : answer ≡ Ok step.Past → (batch : List ℕ) → Extends task.pairing place from batch
      → IsBeaten task (Some next) batch
