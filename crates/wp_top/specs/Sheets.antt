-- The sheets of the waves that went out.
use Rattle.std.specs.Prelude.{◌≡◌, ◌==◌, ℕ, List, [], ◌∷◌, ◌++◌}
use Rattle.wp_machine.specs.Outcome.{is_cancelled_later}
use Rattle.wp_machine.specs.declared.outcome.WaveHolds.{WaveHolds}
use Rattle.wp_model.specs.History.{History}
use Rattle.wp_planner.specs.Sheets.{IsSheet}
use Rattle.wp_planner.specs.Terms.{Terms}
use Rattle.wp_planner.specs.declared.planner.WavePlan.{WavePlan}
use Rattle.wp_words.specs.Words.{PlanNames}

-- what the words of a plan say of how waves are planned, and of what is told of their plans besides
abbrev pub terms_of : PlanNames → Terms
terms_of names = record {
  capacity = names.capacity;
  budget = names.budget;
  nodes = names.nodes;
  workers = names.workers;
  rules = names.rules == 1;
  pickers = names.pickers;
  root = names.root == 1;
}

-- the sheet of a wave that went out in a history and of its plan
abbrev pub IsSheetOf : History → Terms → WaveHolds → WavePlan → List ℕ → Type 0
IsSheetOf history terms released plan sheet
    = IsSheet history.opening released terms plan (is_cancelled_later history released) sheet

-- the sheets of waves that went out and of their plans, one after the other
abbrev pub AreSheets : History → Terms → List WaveHolds → List WavePlan → List ℕ → Type 0
AreSheets history terms [] [] sheets = sheets ≡ []
AreSheets history terms (released ∷ more) (plan ∷ plans) sheets =
    (sheet : List ℕ) × (others : List ℕ) × IsSheetOf history terms released plan sheet
    × AreSheets history terms more plans others
    × (sheets ≡ sheet ++ others)
AreSheets history terms other others sheets = ⊥
