-- On which terms a tree bounds what the batchings of a wave cost.
use Rattle.std.specs.Prelude.{◌≡◌, ℕ, ◌≤◌, List, [], All, Option, Some, None, length}
use Rattle.wp_lengths.specs.Waves.{IsWave, WavePicks}
use Rattle.wp_cuts.specs.Counts.{least_batches}
use Rattle.wp_cuts.specs.Cuts.{CutParts, IsRankCut, most_cuts}
use Rattle.wp_cuts.specs.Prices.{NodePrices, net}
use Rattle.wp_cuts.specs.Steps.{IsLayoutStep}
use Rattle.wp_cert.specs.declared.tree.Own.{Own}

-- a wave, the step to whose multiples bounds are rounded up, some cuts, and how many batches are counted
pub record Terms : Type 0 where
  pub wave : WavePicks
  pub step : ℕ
  pub cuts : List CutParts
  pub batches : ℕ

-- at most 64 cuts, each of so many orders
pub record AreCuts (orders : ℕ) (cuts : List CutParts) : Type 0 where
  pub few : length cuts ≤ most_cuts
  pub each : All (IsRankCut orders) cuts

-- the cuts of a tree; one of the first two forms has none
abbrev pub cuts_in : Option (List CutParts) → List CutParts
cuts_in None = []
cuts_in (Some cuts) = cuts

-- how many batches are counted: with cuts, and be it none of them, as many as the wave has at least; else none
abbrev pub batches_in : WavePicks → ℕ → Option (List CutParts) → ℕ
batches_in wave capacity None = 0
batches_in wave capacity (Some cuts) = least_batches wave capacity

-- the terms of a tree with such cuts, or without cuts, where bounds are rounded up to this step
abbrev pub terms_of : WavePicks → ℕ → Option (List CutParts) → ℕ → Terms
terms_of wave capacity cuts step = record {
  wave = wave;
  step = step;
  cuts = cuts_in cuts;
  batches = batches_in wave capacity cuts;
}

-- the terms of a tree of the first two forms
abbrev pub plain_terms : WavePicks → Terms
plain_terms wave = record { wave = wave; step = 1; cuts = []; batches = 0 }

-- Without cuts bounds are whole numbers. With cuts they are multiples of the layout's step, and the cuts are of the
-- wave's orders.
abbrev pub AreTermsFor : WavePicks → Option (List CutParts) → ℕ → Type 0
AreTermsFor wave None step = step ≡ 1
AreTermsFor wave (Some cuts) step = IsWave wave × AreCuts (length wave.orders) cuts × IsLayoutStep wave.layout step

-- the prices of a node: its duals, what each batch pays besides, and the price of each cut
abbrev pub prices_of : Own → NodePrices
prices_of own = record { duals = own.duals; count = own.count; cuts = own.prices }

-- the net of a node's prices
abbrev pub net_of : Terms → Own → ℕ
net_of terms own = net terms.cuts (prices_of own) terms.batches
