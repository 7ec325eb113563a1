use Rattle.std.proofs.Common.{subst, sym}
use Rattle.wp_waves_top.proofs.KeptPromise.{run_keeps}
use Rattle.wp_waves_top.proofs.run_waves.Goals as goal
use Rattle.wp_waves_top.specs.Promise.{Keeps, course}
use Rattle.wp_waves_words.specs.Words.{waves_asked}
use Rattle.wp_words.specs.Reading.{texts_of}

pub returns : goal.returns
returns g c =
    let files = g.F.Files.told in
    let sink = g.K.Sink.told in
    let asked = waves_asked (texts_of c.args.words.now.items) in
    let went = course (files c.args.files.now) (sink c.args.out.now) (files c.run_asked.new.files) (sink c.run_asked.new.out) in
    let ran = c.run_asked.ensures in
    subst (Keeps asked went) (sym c.number.ensures)
    (run_keeps asked went c.run_asked.result (record {
      same = ran.same;
      counts = ran.counts;
      reads = ran.reads;
      no_more = ran.early;
    }) ran.ended)
