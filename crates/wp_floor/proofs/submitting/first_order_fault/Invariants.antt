use Rattle.std.proofs.Common.{◌≡◌, List, [], drop, take}
use Rattle.wp_model.specs.State.{Wave}
use Rattle.wp_model.specs.Step.{first_order_fault}
use Rattle.wp_floor.specs.Floor.{AreTakers}
use Rattle.wp_floor.proofs.submitting.first_order_fault.Given as goal

abbrev pub invariant-loop-place : goal.invariant-loop-place
invariant-loop-place l = (waves : List Wave) → AreTakers l.opening waves l.takers
    → first_order_fault l.opening waves (take l.place l.orders) (drop l.place l.orders) ≡ first_order_fault l.opening waves [] l.orders
