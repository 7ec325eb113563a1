use Rattle.std.proofs.Common.{◌∙◌, ap, refl, subst, sym, Ok}
use Rattle.std.proofs.lemmas.Result.{IfErr-weaker, IfOk-weaker}
use Rattle.wp_top.proofs.Endings.{job_ended, stopped_ended}
use Rattle.wp_top.proofs.Jobs.{make_is, output_with, stops_with, words_stop}
use Rattle.wp_top.proofs.Storing.{untouched_kept}
use Rattle.wp_top.proofs.run_job.Goals as goal
use Rattle.wp_top.specs.Ends.{Asked, asked_by, audit_job, check_job, make_job, of_run}
use Rattle.wp_top.specs.Promise.{AsksForStore}
use Rattle.wp_top.specs.Stops.{HasEnded, StopsFor}
use Rattle.wp_top.specs.Stores.{disk_course}
use Rattle.wp_words.specs.Reading.{job_names, make_numbers}

pub returns-in-Ok-Check-clause-ended : goal.returns-in-Ok-Check-clause-ended
returns-in-Ok-Check-clause-ended g c =
    let asked = c.in-Ok-Check.ensures.job ∙ ap (λ job. Ok (job_names job)) c.in-Ok-Check.field-0-is in
    let D = g.D.Disk in
    let disk = disk_course (D.told c.args.disk.now) (D.told c.args.disk.now) in
    let old = g.F.Files.told c.args.files.now in
    let new = g.F.Files.told c.check_output.new.files in
    subst (λ (asked : Asked). HasEnded asked disk old new (g.K.Sink.told c.args.out.now) (g.K.Sink.told c.end_job.new.out) c.end_job.result) (sym asked)
    (job_ended (Ok (check_job c.in-Ok-Check.words)) disk old new _ _ c.check_output.result c.end_job.result c.end_job.ensures.ended
    (IfOk-weaker c.check_output.result _ _ (λ text is. output_with disk old new (check_job c.in-Ok-Check.words) text.items tt is) c.check_output.ensures.output)
    (IfErr-weaker c.check_output.result _ _ (λ why is. stops_with disk old new (check_job c.in-Ok-Check.words) why tt is) c.check_output.ensures.stops))

pub returns-in-Ok-Audit-clause-ended : goal.returns-in-Ok-Audit-clause-ended
returns-in-Ok-Audit-clause-ended g c =
    let asked = c.in-Ok-Audit.ensures.job ∙ ap (λ job. Ok (job_names job)) c.in-Ok-Audit.field-0-is in
    let D = g.D.Disk in
    let disk = disk_course (D.told c.args.disk.now) (D.told c.args.disk.now) in
    let old = g.F.Files.told c.args.files.now in
    let new = g.F.Files.told c.audit_output.new.files in
    let end = c.end_job-in-Ok-Audit in
    subst (λ (asked : Asked). HasEnded asked disk old new (g.K.Sink.told c.args.out.now) (g.K.Sink.told end.new.out) end.result) (sym asked)
    (job_ended (Ok (audit_job c.in-Ok-Audit.words)) disk old new _ _ c.audit_output.result end.result end.ensures.ended
    (IfOk-weaker c.audit_output.result _ _ (λ text is. output_with disk old new (audit_job c.in-Ok-Audit.words) text.items tt is) c.audit_output.ensures.output)
    (IfErr-weaker c.audit_output.result _ _ (λ why is. stops_with disk old new (audit_job c.in-Ok-Audit.words) why tt is) c.audit_output.ensures.stops))

pub returns-in-Ok-Make-clause-ended : goal.returns-in-Ok-Make-clause-ended
returns-in-Ok-Make-clause-ended g c =
    let asked = c.in-Ok-Make.ensures.job ∙ ap (λ job. Ok (job_names job)) c.in-Ok-Make.field-0-is in
    let D = g.D.Disk in
    let disk = disk_course (D.told c.args.disk.now) (D.told c.args.disk.now) in
    let told = g.F.Files.told c.args.files.now in
    let end = c.end_job-in-Ok-Make in
    let job : Asked = Ok (make_job c.in-Ok-Make.words) in
    subst (λ (asked : Asked). HasEnded asked disk told told (g.K.Sink.told c.args.out.now) (g.K.Sink.told end.new.out) end.result) (sym asked)
    (job_ended job disk told told _ _ c.make_output.result end.result end.ensures.ended
    (IfOk-weaker c.make_output.result _ _ (λ text summary. make_is disk told told (make_numbers c.in-Ok-Make.words) text.items refl summary)
    c.make_output.ensures.summary)
    (IfErr-weaker c.make_output.result _ _ (λ why is. subst (StopsFor (of_run job disk told told)) (sym is) tt) c.make_output.ensures.stops))

pub returns-in-Err-clause-ended : goal.returns-in-Err-clause-ended
returns-in-Err-clause-ended g c =
    let asked = asked_by c.args.words.now.items in
    let D = g.D.Disk in
    let disk = disk_course (D.told c.args.disk.now) (D.told c.args.disk.now) in
    let told = g.F.Files.told c.args.files.now in
    stopped_ended asked disk told told _ _ c.into.result c.end_stopped.result c.end_stopped.ensures.ended
    (subst (StopsFor (of_run asked disk told told)) (sym c.into.ensures) (words_stop disk asked told c.in-Err.fault c.in-Err.ensures.fault))

-- of the other jobs none asks for a store
pub returns-in-Ok-Check-clause-stored : goal.returns-in-Ok-Check-clause-stored
returns-in-Ok-Check-clause-stored g c = λ asks.
    absurd (subst AsksForStore (c.in-Ok-Check.ensures.job ∙ ap (λ job. Ok (job_names job)) c.in-Ok-Check.field-0-is) asks)

pub returns-in-Ok-Audit-clause-stored : goal.returns-in-Ok-Audit-clause-stored
returns-in-Ok-Audit-clause-stored g c = λ asks.
    absurd (subst AsksForStore (c.in-Ok-Audit.ensures.job ∙ ap (λ job. Ok (job_names job)) c.in-Ok-Audit.field-0-is) asks)

pub returns-in-Ok-Make-clause-stored : goal.returns-in-Ok-Make-clause-stored
returns-in-Ok-Make-clause-stored g c = λ asks.
    absurd (subst AsksForStore (c.in-Ok-Make.ensures.job ∙ ap (λ job. Ok (job_names job)) c.in-Ok-Make.field-0-is) asks)

-- words that are no job, or for which there is no memory, leave the disk as it was
pub returns-in-Err-clause-stored : goal.returns-in-Err-clause-stored
returns-in-Err-clause-stored g c = λ asks.
    untouched_kept (g.D.Disk.told c.args.disk.now) _ (g.met.D.Disk.is_disk c.args.disk.now)
