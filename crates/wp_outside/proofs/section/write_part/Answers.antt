use Rattle.std.proofs.Common.{◌++◌}
use Rattle.wp_outside.specs.declared.sink.SinkFault.TheVariants.{Memory}
use Rattle.wp_outside.proofs.Steps.{Fails-memory, passed_on}
use Rattle.wp_outside.proofs.section.write_part.Goals as goal

pub returns-in_err-print-clause-fails : goal.returns-in_err-print-clause-fails
returns-in_err-print-clause-fails g c =
    let part = c.requires.any c.args.number c.requires.within in
    passed_on c.from_residual.result Memory _ c.from_residual.ensures.1
    (part.0, part.1, Fails-memory (g.K.Sink.told c.args.out.now) (c.args.waiting.now.items ++ part.0))
