-- What is kept while a tree is checked.
use Rattle.std.specs.Prelude.{◌^◌, ℕ, ◌+◌, ◌*◌, ◌<◌, ◌≤◌, ◌↔◌, List, length}
use Rattle.wp_pairs.specs.Permitted.{Pairing}
use Rattle.wp_lengths.specs.Duals.{duals_of}
use Rattle.wp_lengths.specs.Visits.{IsReach}
use Rattle.wp_visit.specs.Items.{most_dual}
use Rattle.wp_cuts.specs.Prices.{taken_off}
use Rattle.wp_cert.specs.declared.tree.Own.{Own}
use Rattle.wp_cert.specs.Terms.{Terms}

-- terms that are kept have a step, and few cuts and batches
pub record AreKeptTerms (terms : Terms) : Type 0 where
  pub some : 1 ≤ terms.step
  pub few : length terms.cuts ≤ 64
  pub counted : terms.batches ≤ 64

-- more is never taken off
abbrev pub most_off : ℕ
most_off = 64 * (4096 * 2 ^ 64)

-- so much is owed: a length of so many sixtieths covers it where with what is taken off it is no less than all that is
-- charged
abbrev pub IsOwed : ℕ → ℕ → ℕ → Type 0
IsOwed charged off owed = (most : ℕ) → most < most_dual → (owed ≤ most) ↔ (charged ≤ most + off)

-- a place owes so much with a reach: what it has in a node's duals and the price of each batch, less what cuts take off
abbrev pub IsOwedAt : Terms → Own → List ℕ → ℕ → ℕ → Type 0
IsOwedAt terms own place reach owed
    = IsOwed (duals_of own.duals place + own.count + reach) (taken_off terms.cuts own.prices place) owed

-- it owes so much with its own reach
pub record IsOwedWith (terms : Terms) (pairing : Pairing) (own : Own) (place : List ℕ) (from owed : ℕ) : Type 0 where
  pub reach : ℕ
  pub reaches : IsReach pairing own.duals place from reach
  pub is : IsOwedAt terms own place reach owed
