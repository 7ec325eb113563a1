-- A made day, and its summary.
use Rattle.std.specs.Prelude.{ℕ, Bool, true, false, List, [], ◌∷◌, ◌++◌, codes, count_by, length}
use Rattle.std.specs.List.{AllZip, sum_by}
use Rattle.wp_machine.specs.declared.outcome.WaveHolds.{WaveHolds}
use Rattle.wp_make.specs.Texts.{Texts}
use Rattle.wp_make.specs.declared.input.Size.{Size}
use Rattle.wp_model.specs.History.{History, state_after}
use Rattle.wp_model.specs.Journal.{line, number_after_space}
use Rattle.wp_model.specs.Opening.{Opening}
use Rattle.wp_model.specs.Step.{says_released}
use Rattle.wp_model.specs.Warehouse.{Layout}
use Rattle.wp_model.specs.declared.entry.Entry.{Entry}
use Rattle.wp_model.specs.declared.row.Row.{Row}
use Rattle.wp_planner.specs.Plans.{IsPlanOf}
use Rattle.wp_planner.specs.Released.{IsWaveOf}
use Rattle.wp_planner.specs.Terms.{Terms, budget_of}
use Rattle.wp_planner.specs.declared.planner.WavePlan.{WavePlan}
use Rattle.wp_search.specs.Plans.{IsGoodPlan}
use Rattle.wp_search.specs.declared.plan.State.{State}
use Rattle.wp_search.specs.declared.plan.State.TheVariants as states
use Rattle.wp_top.specs.Texts.{ReadFile, file_of}
use Rattle.wp_top.specs.declared.input.Input.{Input}
use Rattle.wp_top.specs.declared.input.Input.TheVariants as input
use Rattle.wp_words.specs.Words.{MakeNumbers}

-- how large a day the words of a make ask for
abbrev pub size_of : MakeNumbers → Size
size_of numbers = record {
  aisles = numbers.aisles;
  orders = numbers.orders;
  desks = numbers.desks;
  wave = numbers.wave;
}

-- and how its waves are to be planned
abbrev pub made_terms : MakeNumbers → Terms
made_terms numbers = record {
  capacity = numbers.capacity;
  budget = numbers.budget;
  nodes = numbers.nodes;
  workers = numbers.workers;
  rules
      = false;
  pickers = 0;
  root = false;
}

-- a file of a made day: which it is, the name by which it is read, and its text
abbrev pub made_file : Input → List ℕ → List ℕ → ReadFile
made_file kind name text = record { file = file_of kind name; text = text }

-- the files of made texts, one after the other
abbrev pub made_files : Texts → List ReadFile
made_files texts =
    made_file input.Layout (codes "layout") texts.layout ∷ made_file input.Stock (codes "stock") texts.stock
    ∷ made_file input.Orders (codes "orders") texts.orders ∷ made_file input.Desks (codes "desks") texts.desks ∷ []

-- good plans of waves that went out, one by one: each is one of the wave that picks where the one that went out holds
-- units
abbrev pub AreGoodPlans : Layout → Opening → Terms → List WaveHolds → List WavePlan → Type 0
AreGoodPlans layout opening terms waves plans = AllZip
    (λ (released : WaveHolds) (plan : WavePlan).
    IsWaveOf layout opening released plan.wave
    × IsGoodPlan plan.wave terms.capacity (budget_of (length plan.wave.orders) terms) plan.planned) waves plans

-- such plans, each with a certificate that tells its bound, and with a bracket where the terms ask for one
abbrev pub AreWholePlans : Layout → Opening → Terms → List WaveHolds → List WavePlan → Type 0
AreWholePlans layout opening terms waves plans
    = AllZip (λ (released : WaveHolds) (plan : WavePlan). IsPlanOf layout opening released terms plan) waves plans

-- how many entries have the reply that a wave is released
abbrev pub releases : List Entry → ℕ
releases entries = count_by (λ entry. says_released entry.reply) entries

-- how many units are held at rows
abbrev pub held_units : List Row → ℕ
held_units rows = sum_by (λ row. row.held) rows

-- what plans cost together
abbrev pub total_cost : List WavePlan → ℕ
total_cost plans = sum_by (λ plan. plan.planned.cost) plans

-- the sum of their bounds
abbrev pub total_bound : List WavePlan → ℕ
total_bound plans = sum_by (λ plan. plan.planned.bound) plans

-- a plan in this state is proven
abbrev pub is_proven : State → Bool
is_proven states.Proven = true
is_proven states.Open = false

-- how many plans are proven
abbrev pub proven_plans : List WavePlan → ℕ
proven_plans plans = count_by (λ plan. is_proven plan.planned.state) plans

-- how large a day was made, to the end of its line
abbrev pub size_words : Size → List ℕ
size_words size =
    line (codes " aisles" ++ number_after_space size.aisles ++ codes " orders" ++ number_after_space size.orders
    ++ codes " desks" ++ number_after_space size.desks)

-- the line of what was made
abbrev pub made_line : ℕ → Size → List ℕ
made_line number size = codes "made number" ++ number_after_space number ++ size_words size

-- the line of what the desks did: how many commands there were, how many waves were released, and how many units are
-- held at the end
abbrev pub commands_line : History → List ℕ
commands_line history =
    line (codes "commands" ++ number_after_space (length history.entries) ++ codes " released"
    ++ number_after_space (releases history.entries)
    ++ codes " units" ++ number_after_space (held_units (state_after history).rows))

-- the line of what the plans come to
abbrev pub plans_line : List WavePlan → List ℕ
plans_line plans =
    line (codes "cost" ++ number_after_space (total_cost plans) ++ codes " bound"
    ++ number_after_space (total_bound plans)
    ++ codes " proven" ++ number_after_space (proven_plans plans))

-- the summary of a history and of the plans of its waves
abbrev pub summary_of : MakeNumbers → History → List WavePlan → List ℕ
summary_of numbers history plans = made_line numbers.number (size_of numbers) ++ commands_line history
    ++ plans_line plans
