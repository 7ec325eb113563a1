use Rattle.std.proofs.Common.{Ok, refl, subst, sym}
use Rattle.wp_top.proofs.Endings.{job_ended}
use Rattle.wp_top.proofs.KeptPromise.{run_keeps}
use Rattle.wp_top.proofs.run_audit.Goals as goal
use Rattle.wp_top.specs.Ends.{audit_job}
use Rattle.wp_top.specs.Promise.{Keeps, course}
use Rattle.wp_top.specs.Stores.{no_disk, nothing}

pub returns : goal.returns
returns g c =
    let files = g.F.Files.told in
    let sink = g.K.Sink.told in
    let asked = Ok (audit_job c.args.words.now) in
    let old = files c.args.files.now in
    let new = files c.audit_output.new.files in
    let went = course old (sink c.args.out.now) new (sink c.end_job.new.out) no_disk in
    let read = c.audit_output.ensures in
    subst (Keeps asked went nothing nothing) (sym c.number.ensures)
    (run_keeps asked went nothing nothing c.end_job.result
    (record { same = read.same; counts = read.counts; reads = read.reads; no_more = c.end_job.ensures.early; stored = λ asks. absurd asks })
    (record { untouched = λ none. refl; unopened = λ of. refl })
    (job_ended asked no_disk old new _ _ c.audit_output.result c.end_job.result c.end_job.ensures.ended read.output read.stops))
