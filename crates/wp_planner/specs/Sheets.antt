-- The sheet of a wave that went out.
use Rattle.std.specs.Prelude.{◌≡◌, ℕ, ◌+◌, Bool, true, false, List, [], ◌∷◌, ◌++◌, Option, codes}
use Rattle.wp_model.specs.Journal.{line}
use Rattle.wp_model.specs.Opening.{Opening, Stock}
use Rattle.wp_model.specs.Tours.{IsTour}
use Rattle.wp_model.specs.declared.point.Point.{Point}
use Rattle.wp_machine.specs.declared.outcome.WaveHolds.{WaveHolds}
use Rattle.wp_lengths.specs.Lengths.{IsLengthOf, batch_picks}
use Rattle.wp_lengths.specs.Waves.{WavePicks}
use Rattle.wp_cert.specs.Bounds.{TellsBound}
use Rattle.wp_cert.specs.TextData.{certificate_text}
use Rattle.wp_search.specs.declared.plan.Planned.{Planned}
use Rattle.wp_search.specs.declared.plan.State.{State}
use Rattle.wp_search.specs.declared.plan.State.TheVariants as state
use Rattle.wp_rules.specs.Rules.{walk_of_rule}
use Rattle.wp_rules.specs.declared.rule.Rule.{Rule}
use Rattle.wp_rules.specs.declared.rule.Rule.TheVariants as rule
use Rattle.wp_sheets.specs.Rules.{rules_line}
use Rattle.wp_sheets.specs.Sheets.{IsBatchText, end_line, heading_line}
use Rattle.wp_planner.specs.Roots.{root_text}
use Rattle.wp_planner.specs.Terms.{Terms}
use Rattle.wp_planner.specs.declared.planner.WavePlan.{WavePlan}

-- a shortest tour past all that the orders of a batch pick, and its length
pub record IsShortestTour (wave : WavePicks) (batch : List ℕ) (walk : List Point) (total : ℕ) : Type 0 where
  pub shortest : IsLengthOf wave batch total
  pub tour : IsTour wave.layout (batch_picks wave batch) walk total

-- how long the walk is that a rule would go past all that the orders of a batch pick
abbrev pub IsRuleLength : WavePicks → List ℕ → Rule → ℕ → Type 0
IsRuleLength wave batch rule total = IsTour wave.layout (batch_picks wave batch)
    (walk_of_rule wave.layout (batch_picks wave batch) rule) total

-- the line of what three usual rules would walk past a batch's picks, beside the length of its tour
pub record IsRulesLine (wave : WavePicks) (batch : List ℕ) (total : ℕ) (text : List ℕ) : Type 0 where
  pub shape : ℕ
  pub s_shape : IsRuleLength wave batch rule.SShape shape
  pub back : ℕ
  pub return : IsRuleLength wave batch rule.Return back
  pub gap : ℕ
  pub largest_gap : IsRuleLength wave batch rule.LargestGap gap
  pub is : text ≡ rules_line shape back gap total

-- what follows the picks of a batch on its wave's sheet: where sheets tell of rules, that line
abbrev pub FollowsPicks : Bool → WavePicks → List ℕ → ℕ → List ℕ → Type 0
FollowsPicks true wave batch total text = IsRulesLine wave batch total text
FollowsPicks false wave batch total text = text ≡ []

-- the part of a batch on a wave's sheet: its number, the length of its tour, its orders, a shortest tour, its picks by
-- row, and what follows them
pub record IsBatchPart (stock : Stock) (released : WaveHolds) (wave : WavePicks) (rules : Bool) (number : ℕ)
    (batch part : List ℕ) : Type 0 where
  pub total : ℕ
  pub walk : List Point
  pub tours : IsShortestTour wave batch walk total
  pub lines : List ℕ
  pub are : IsBatchText number released stock batch total walk lines
  pub after : List ℕ
  pub follows : FollowsPicks rules wave batch total after
  pub is : part ≡ lines ++ after

-- the parts of batches, one after the other, where the first has this number
abbrev pub AreParts : Stock → WaveHolds → WavePicks → Bool → ℕ → List (List ℕ) → List ℕ → Type 0
AreParts stock released wave rules number [] parts = parts ≡ []
AreParts stock released wave rules number (batch ∷ batches) parts =
    (first : List ℕ) × (others : List ℕ) × IsBatchPart stock released wave rules number batch first
    × AreParts stock released wave rules (number + 1) batches others × (parts ≡ first ++ others)

-- a plan is open: its bound is below its cost
abbrev pub is_open : State → Bool
is_open state.Proven = false
is_open state.Open = true

-- the first line of a plan's sheet
abbrev pub plan_line : Option ℕ → WaveHolds → ℕ → Planned → Bool → List ℕ
plan_line units released capacity planned cancelled_later =
    heading_line released capacity units planned.cost planned.bound (is_open planned.state) cancelled_later

-- the line of a plan's certificate
abbrev pub certificate_line : WavePicks → ℕ → Planned → List ℕ
certificate_line wave capacity planned = line
    (codes "certificate " ++ certificate_text wave capacity planned.tree)

-- the certificate of a sheet tells the bound of its first line, by the words that a check goes by
abbrev pub TellsTheBound : WavePicks → ℕ → Planned → Type 0
TellsTheBound wave capacity planned =
    TellsBound wave.layout (certificate_text wave capacity planned.tree) planned.bound

-- the sheet of a wave that went out and its plan: a first line, the parts of its batches, numbered from 1, its
-- certificate, its bracket of the linear bound, if it has one, and a last line; and its certificate tells the bound of
-- its first line
pub record IsSheet (opening : Opening) (released : WaveHolds) (terms : Terms) (plan : WavePlan) (cancelled_later : Bool)
    (sheet : List ℕ) : Type 0 where
  pub parts : List ℕ
  pub are : AreParts opening.stock released plan.wave terms.rules 1 plan.planned.batching parts
  pub is : sheet ≡ plan_line opening.units released terms.capacity plan.planned cancelled_later ++ parts
      ++ certificate_line plan.wave terms.capacity plan.planned ++ root_text plan.root ++ end_line
  pub certified : TellsTheBound plan.wave terms.capacity plan.planned
