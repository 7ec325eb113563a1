use Rattle.std.proofs.Common.{◌∙◌}
use Rattle.wp_model.proofs.NameEq.{contains_name}
use Rattle.wp_outgoing.proofs.names.is_before.Goals as goal

pub returns : goal.returns
returns c = c.contains.ensures.value ∙ contains_name c.args.name.now c.args.before.now
