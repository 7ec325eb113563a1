-- What a visit knows of the lengths of batches where it measures no tour.
use Rattle.std.specs.Prelude.{ℕ, ◌<◌, ◌≤◌, List, All, length}
use Rattle.wp_pairs.specs.Permitted.{Pairing}
use Rattle.wp_lengths.specs.Lengths.{IsLengthOf}
use Rattle.wp_lengths.specs.Waves.{WavePicks}
use Rattle.wp_lengths.specs.Duals.{sixtieths_of}
use Rattle.wp_lengths.specs.Visits.{IsReach}
use Rattle.wp_cuts.specs.PricedVisits.{ReachesAtMost, ReachesMore}
use Rattle.wp_cert.specs.declared.tree.Own.{Own}
use Rattle.wp_cert.specs.Terms.{Terms, prices_of}

-- each batch of a wave's orders has a length
abbrev pub HasEachLength : WavePicks → Type 0
HasEachLength wave = (batch : List ℕ) → All (λ order. order < length wave.orders) batch
    → (total : ℕ) × IsLengthOf wave batch total

-- the length of a batch is no less than a known number
abbrev pub IsNoLess : WavePicks → List ℕ → ℕ → Type 0
IsNoLess wave batch known = (total : ℕ) → IsLengthOf wave batch total → known ≤ total

-- a place stands for all batches that have more orders after it: what it pays and its reach are no more than its length
-- in sixtieths
pub record StandsForMore (terms : Terms) (pairing : Pairing) (own : Own) (place : List ℕ) (from : ℕ) : Type 0 where
  pub total : ℕ
  pub reach : ℕ
  pub long : IsLengthOf terms.wave place total
  pub reaches : IsReach pairing own.duals place from reach
  pub within : ReachesAtMost terms.cuts (prices_of own) place reach (sixtieths_of total)

-- a place doesn't stand for them: they are more
pub record ReachesTooMuch (terms : Terms) (pairing : Pairing) (own : Own) (place : List ℕ) (from : ℕ) : Type 0 where
  pub total : ℕ
  pub reach : ℕ
  pub long : IsLengthOf terms.wave place total
  pub reaches : IsReach pairing own.duals place from reach
  pub above : ReachesMore terms.cuts (prices_of own) place reach (sixtieths_of total)
