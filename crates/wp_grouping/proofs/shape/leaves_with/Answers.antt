use Rattle.std.proofs.Common.{◌∙◌}
use Rattle.wp_model.proofs.NameEq.{name_eq_is}
use Rattle.wp_grouping.proofs.shape.leaves_with.Goals as goal

pub returns : goal.returns
returns c = c.eq.ensures ∙ name_eq_is c.args.one.now.group c.args.group.now
