use Rattle.wp_outside.specs.declared.sink.SinkFault.TheVariants.{Memory}
use Rattle.wp_outside.proofs.Steps.{Fails-memory, passed_on}
use Rattle.wp_top.proofs.DayWriting.{day_unwritten}
use Rattle.wp_top.proofs.written.write_day.Goals as goal

pub returns-in_err-waiting-clause-fails : goal.returns-in_err-waiting-clause-fails
returns-in_err-waiting-clause-fails g c = λ layout start told.
    let sink = g.K.Sink.told c.args.out.now in
    passed_on c.from_residual.result Memory _ c.from_residual.ensures.1
    (day_unwritten layout c.args.day.now.terms.now start c.args.day.now.run.now c.args.day.now.crew.now Memory sink told c.requires.dealt
    (λ text. Fails-memory sink text))

pub returns-in_err-entries-clause-fails : goal.returns-in_err-entries-clause-fails
returns-in_err-entries-clause-fails g c = λ layout start told.
    let sink = g.K.Sink.told c.args.out.now in
    passed_on c.from_residual-in_err-entries.result Memory _ c.from_residual-in_err-entries.ensures.1
    (day_unwritten layout c.args.day.now.terms.now start c.args.day.now.run.now c.args.day.now.crew.now Memory sink told c.requires.dealt
    (λ text. Fails-memory sink text))
