use Rattle.std.proofs.Common.{subst, sym, Err}
use Rattle.wp_waves_top.proofs.Endings.{waves_ended}
use Rattle.wp_waves_top.proofs.Outputs.{stops_at_words}
use Rattle.wp_waves_top.proofs.run_asked.Goals as goal
use Rattle.wp_waves_top.specs.Ends.{Asked, HasEnded}
use Rattle.wp_waves_top.specs.Stops.{StopsFor}
use Rattle.wp_waves_words.specs.Words.{waves_asked}
use Rattle.wp_words.specs.Reading.{texts_of}

pub returns-in-Ok-clause-ended : goal.returns-in-Ok-clause-ended
returns-in-Ok-clause-ended g c =
    let old = g.F.Files.told c.args.files.now in
    let new = g.F.Files.told c.waves_output.new.files in
    subst (λ (asked : Asked). HasEnded asked old new (g.K.Sink.told c.args.out.now) (g.K.Sink.told c.end_waves.new.out) c.end_waves.result)
    (sym c.in-Ok.ensures.said)
    (waves_ended _ old new _ _ c.waves_output.result c.end_waves.result c.end_waves.ensures.ended c.waves_output.ensures.output c.waves_output.ensures.stops)

pub returns-in-Err-clause-ended : goal.returns-in-Err-clause-ended
returns-in-Err-clause-ended g c =
    let asked = waves_asked (texts_of c.args.words.now.items) in
    let told = g.F.Files.told c.args.files.now in
    waves_ended asked told told _ _ (Err c.into.result) c.end_waves-in-Err.result c.end_waves-in-Err.ensures.ended tt
    (subst (StopsFor asked told told) (sym c.into.ensures) (stops_at_words asked told c.in-Err.fault c.in-Err.ensures.fault))
