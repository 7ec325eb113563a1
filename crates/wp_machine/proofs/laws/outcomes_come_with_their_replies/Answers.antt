use Rattle.wp_machine.proofs.Outcomes.{holds_come_with_released, refills_come_with_refilled}
use Rattle.wp_machine.proofs.laws.outcomes_come_with_their_replies.Goals as goal

pub returns-clause-released : goal.returns-clause-released
returns-clause-released c = holds_come_with_released

pub returns-clause-refilled : goal.returns-clause-refilled
returns-clause-refilled c = refills_come_with_refilled
