use Rattle.std.proofs.Common.{◌∙◌}
use Rattle.wp_model.proofs.NameEq.{name_eq_is}
use Rattle.wp_outgoing.proofs.leaving.is_order.Goals as goal

pub returns : goal.returns
returns c = c.eq.ensures ∙ name_eq_is c.args.one.now.order c.args.order.now
