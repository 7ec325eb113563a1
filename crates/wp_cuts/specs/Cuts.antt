-- Cuts: rank-1 cuts of Chvátal and Gomory over the orders of a wave. In branch and price triples are taken by Jepsen,
-- Petersen, Spoorendonk and Pisinger (2008), for order batching by Wahlen and Gschwind (2023).
use Rattle.std.specs.Prelude.{◌≡◌, ℕ, ◌+◌, ◌/◌, ◌<◌, ◌≤◌, ◌==◌, if◌then◌else◌, List, [], ◌∷◌, All, Contains}
use Rattle.std.specs.Prelude.{length, sum_by}
use Rattle.std.specs.List.Sorted.{IsStrictlyIncreasing}
use Rattle.wp_lengths.specs.Batchings.{IsBatching}
use Rattle.wp_lengths.specs.Waves.{WavePicks}

-- a divisor, and some orders with a part each, beside it in the other list
pub record CutParts : Type 0 where
  pub divisor : ℕ
  pub orders : List ℕ
  pub parts : List ℕ

-- the most cuts that a tree has
abbrev pub most_cuts : ℕ
most_cuts = 64

-- A cut of so many orders: its divisor is 2 to 8; its orders are of the wave, at least one, in strictly ascending
-- order, and each has a part from 1 to one less than the divisor.
pub record IsRankCut (orders : ℕ) (cut : CutParts) : Type 0 where
  pub low : 2 ≤ cut.divisor
  pub high : cut.divisor ≤ 8
  pub some : 0 < length cut.orders
  pub ascending : IsStrictlyIncreasing cut.orders
  pub known : All (λ order. order < orders) cut.orders
  pub each : length cut.parts ≡ length cut.orders
  pub parts : All (λ part. (1 ≤ part) × (part < cut.divisor)) cut.parts

-- the part beside an order in two lists, 0 where the order isn't there
abbrev pub part_beside : List ℕ → List ℕ → ℕ → ℕ
part_beside [] parts order = 0
part_beside (first ∷ orders) [] order = 0
part_beside (first ∷ orders) (part ∷ parts) order = if first == order then part else part_beside orders parts order

-- the part of an order in a cut, 0 where the cut doesn't have it
abbrev pub cut_part : CutParts → ℕ → ℕ
cut_part cut = part_beside cut.orders cut.parts

-- how often a batch meets a cut: the sum of the parts of its orders over the divisor, rounded down
abbrev pub times_met : CutParts → List ℕ → ℕ
times_met cut batch = sum_by (cut_part cut) batch / cut.divisor

-- how often all orders of a cut together would meet it
abbrev pub times_met_by_all : CutParts → ℕ
times_met_by_all cut = times_met cut cut.orders

-- how often the batches of a list meet a cut, each by itself
abbrev pub times_met_by_each : CutParts → List (List ℕ) → ℕ
times_met_by_each cut [] = 0
times_met_by_each cut (batch ∷ batches) = times_met cut batch + times_met_by_each cut batches

-- further orders never meet a cut fewer times
abbrev pub FurtherOrdersMeetCutsNoLess : Type 0
FurtherOrdersMeetCutsNoLess = (cut : CutParts) (some all : List ℕ) → IsStrictlyIncreasing some
    → IsStrictlyIncreasing all → ((order : ℕ) → Contains some order → Contains all order)
    → times_met cut some ≤ times_met cut all

-- the batches of a batching together meet a cut no more often than all its orders would
abbrev pub BatchingsMeetCutsNoMore : Type 0
BatchingsMeetCutsNoMore = (wave : WavePicks) (capacity : ℕ) (batches : List (List ℕ)) (orders : ℕ) (cut : CutParts)
    → IsBatching wave capacity batches → IsRankCut orders cut → times_met_by_each cut batches ≤ times_met_by_all cut
