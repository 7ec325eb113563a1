use Rattle.wp_model.proofs.Replies.{done_or_refused, refusals_leave}
use Rattle.wp_model.proofs.laws.refusals_change_nothing.Goals as goal

pub returns-clause-replies : goal.returns-clause-replies
returns-clause-replies c = done_or_refused

pub returns-clause-state : goal.returns-clause-state
returns-clause-state c = refusals_leave
