-- A best step from an aisle to the next.
use Rattle.std.specs.Prelude.{◌≡◌, ℕ, ◌+◌, ◌-◌, Some}
use Rattle.wp_classes.specs.declared.class.Class.{Class}
use Rattle.wp_classes.specs.declared.lengths.OnwardLengths.{OnwardLengths}
use Rattle.wp_classes.specs.declared.tour.AisleStep.{AisleStep}
use Rattle.wp_classes.specs.Choices.{Block, TakesCross, TakesWay}
use Rattle.wp_classes.specs.Least.{length_at}
use Rattle.wp_classes.specs.Onward.{IsLeastOf, Onward}

-- A step to an aisle, from a class after the aisle before it, where so many more aisles are left: with a way to go on
-- it comes to the least length.
pub record IsBestStep (block : Block) (left aisle : ℕ) (after : OnwardLengths) (before : Class)
    (step : AisleStep) : Type 0 where
  pub between : Class
  pub across : ℕ
  pub through : ℕ
  pub rest : ℕ
  pub crosses : TakesCross (block.spacing (aisle - 1)) step.cross before between across
  pub takes : TakesWay (block.ways aisle) step.way between step.class through
  pub known : length_at after step.class ≡ Some rest
  pub least : IsLeastOf (λ t. Onward block left (aisle - 1) before t) (Some (across + through + rest))
