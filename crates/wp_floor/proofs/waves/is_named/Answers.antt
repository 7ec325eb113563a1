use Rattle.std.proofs.Common.{◌∙◌}
use Rattle.wp_model.proofs.NameEq.{name_eq_is}
use Rattle.wp_floor.proofs.waves.is_named.Goals as goal

pub returns : goal.returns
returns c = c.eq.ensures ∙ name_eq_is c.args.numbered.now.wave.name c.args.name.now
