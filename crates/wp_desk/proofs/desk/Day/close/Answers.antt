use Rattle.std.proofs.Common.{arith, refl}
use Rattle.wp_desk.proofs.WholeDay.{given_all}
use Rattle.wp_desk.proofs.desk.Day.close.Goals as goal

pub unreachable-requires : goal.unreachable-requires
unreachable-requires c =
    let given = given_all c.args.self.turn c.args.desks.passes.list c.requires.all in omega (arith, given, c.in-Err.ensures.not_all.0 refl)
