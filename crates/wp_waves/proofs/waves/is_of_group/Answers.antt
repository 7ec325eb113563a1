use Rattle.std.proofs.Common.{◌∙◌, sym}
use Rattle.wp_model.proofs.NameEq.{name_eq_is}
use Rattle.wp_waves.proofs.KeptWaves.{first_is}
use Rattle.wp_waves.proofs.waves.is_of_group.Goals as goal

pub returns-in-Some : goal.returns-in-Some
returns-in-Some c =
    c.eq.ensures
    ∙ (name_eq_is c.in-Some.one.now.group c.args.group.now
    ∙ sym (first_is c.args.group.now c.args.wave.now c.in-Some.one.now c.in-Some.ensures.value))
