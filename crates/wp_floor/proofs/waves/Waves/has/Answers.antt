use Rattle.std.proofs.Common.{sym}
use Rattle.wp_floor.specs.Waves.{waves_of}
use Rattle.wp_floor.proofs.WaveChains.{some_named}
use Rattle.wp_floor.proofs.waves.Waves.has.Goals as goal

pub returns-in-Some : goal.returns-in-Some
returns-in-Some c =
    let found = c.in-Some.ensures.some in
    sym (some_named (waves_of c.args.self.now) found.1.0 c.in-Some.field-0.now c.args.name.now found.1.1 found.0)
