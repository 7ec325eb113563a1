use Rattle.std.proofs.Common.{subst, sym}
use Rattle.wp_top.proofs.KeptPromise.{run_keeps}
use Rattle.wp_top.proofs.run.Goals as goal
use Rattle.wp_top.specs.Ends.{asked_by}
use Rattle.wp_top.specs.Promise.{Keeps, course}
use Rattle.wp_top.specs.Stores.{disk_course}

pub returns : goal.returns
returns g c =
    let files = g.F.Files.told in
    let sink = g.K.Sink.told in
    let D = g.D.Disk in
    let asked = asked_by c.args.words.now.items in
    let disk = disk_course (D.told c.args.disk.now) (D.told c.run_job.new.disk) in
    let went = course (files c.args.files.now) (sink c.args.out.now) (files c.run_job.new.files) (sink c.run_job.new.out) disk in
    let job = c.run_job.ensures in
    subst (Keeps asked went c.args.disk.now c.run_job.new.disk) (sym c.number.ensures)
    (run_keeps asked went c.args.disk.now c.run_job.new.disk c.run_job.result (record {
      same = job.same;
      counts = job.counts;
      reads = job.reads;
      no_more = job.early;
      stored = job.stored;
    }) (record { untouched = job.untouched; unopened = job.unopened }) job.ended)
