-- The batches of a day, and the crew to which they are dealt.
use Rattle.std.specs.Prelude.{◌≡◌, ℕ, ◌+◌, ◌≤◌, ◌^◌, ⊤, All, List, [], ◌∷◌, ◌++◌, None, Option, Some, map}
use Rattle.std.specs.Option.{option_map_or}
use Rattle.wp_lengths.specs.Lengths.{IsLengthOf}
use Rattle.wp_lengths.specs.Waves.{WavePicks}
use Rattle.wp_crew.specs.Crews.{IsCrew, IsNearTheMean, NoneIsBelow}
use Rattle.wp_machine.specs.declared.outcome.WaveHolds.{WaveHolds}
use Rattle.wp_sheets.specs.Crews.{crew_section}
use Rattle.wp_planner.specs.Sent.{Sent}
use Rattle.wp_planner.specs.declared.crew.DayBatches.{DayBatches}
use Rattle.wp_planner.specs.declared.crew.DayCrew.{DayCrew}
use Rattle.wp_planner.specs.declared.planner.WavePlan.{WavePlan}

-- a batch of a day: the name of its wave, its number on the wave's sheet, the wave as it was planned, and the batch's
-- orders
pub record DayBatch : Type 0 where
  pub wave : List ℕ
  pub number : ℕ
  pub planned : WavePicks
  pub orders : List ℕ

-- the batches of a wave, of which the first has this number
unfoldable pub wave_batches : List ℕ → WavePicks → ℕ → List (List ℕ) → List DayBatch
wave_batches name planned number [] = []
wave_batches name planned number (orders ∷ batches) =
    record { wave = name; number = number; planned = planned; orders = orders }
    ∷ wave_batches name planned (number + 1) batches

-- the batches of waves that went out and of their plans, in the order of their sheets
unfoldable pub day_batches : List WaveHolds → List WavePlan → List DayBatch
day_batches [] plans = []
day_batches (released ∷ more) [] = []
day_batches (released ∷ more) (plan ∷ plans)
    = wave_batches released.wave plan.wave 1 plan.planned.batching ++ day_batches more plans

-- the batches of one wave that went out, where it has a plan
abbrev pub sent_batches : Sent → List DayBatch
sent_batches sent = option_map_or (λ plan. wave_batches sent.wave.wave plan.wave 1 plan.planned.batching) sent.plan []

-- each tour of a batch goes somewhere
abbrev pub GoesSomewhere : WavePicks → List ℕ → Type 0
GoesSomewhere planned orders = (total : ℕ) → IsLengthOf planned orders total → 1 ≤ total

-- the lengths of the tours of batches
abbrev pub AreLengths : List DayBatch → List ℕ → Type 0
AreLengths [] [] = ⊤
AreLengths (batch ∷ batches) (one ∷ lengths) = IsLengthOf batch.planned batch.orders one × AreLengths batches lengths
AreLengths other others = ⊥

-- a length that may be dealt to a picker
abbrev pub MayBeDealt : ℕ → Type 0
MayBeDealt one = (1 ≤ one) × (one ≤ 2 ^ 40)

-- batches are listed by the names of their waves, by their numbers, and by the lengths of their tours
pub record AreListed (batches : List DayBatch) (listed : DayBatches) : Type 0 where
  pub waves : listed.waves.items ≡ map (λ batch. batch.wave) batches
  pub numbers : listed.numbers.items ≡ map (λ batch. batch.number) batches
  pub lengths : AreLengths batches listed.lengths.items
  pub each : All MayBeDealt listed.lengths.items

-- batches are dealt to so many pickers: the crew is settled, no crew's longest load is below the least that it tells,
-- and its longest load is near the mean
pub record IsDealtCrew (pickers : ℕ) (batches : List DayBatch) (dealt : DayCrew) : Type 0 where
  pub listed : AreListed batches dealt.batches
  pub crew : IsCrew dealt.batches.lengths.items pickers dealt.crew.picker_of.items dealt.crew.loads.items
      dealt.crew.longest dealt.crew.least
  pub least : NoneIsBelow dealt.batches.lengths.items pickers dealt.crew.least
  pub near : IsNearTheMean dealt.batches.lengths.items pickers dealt.crew.picker_of.items dealt.crew.loads.items
      dealt.crew.longest

-- where there are pickers, batches are dealt to them, and else there is no crew
abbrev pub IsCrewFor : ℕ → List DayBatch → Option DayCrew → Type 0
IsCrewFor pickers batches None = pickers ≡ 0
IsCrewFor pickers batches (Some dealt) = (1 ≤ pickers) × IsDealtCrew pickers batches dealt

-- the section of a crew, if there is one
abbrev pub crew_text : Option DayCrew → List ℕ
crew_text None = []
crew_text (Some dealt) = crew_section dealt.crew dealt.batches.waves.items dealt.batches.numbers.items
