use Rattle.std.proofs.Common.{inl, inr, subst, sym, Ok}
use Rattle.std.proofs.lemmas.Bool.{cases_eq}
use Rattle.std.proofs.lemmas.Result.{IfErr-weaker}
use Rattle.wp_top.proofs.Endings.{stopped_ended, stopped_not_of_input, written_early, written_ended, written_not_of_input}
use Rattle.wp_top.proofs.Jobs.{plan_is, stop_at_store}
use Rattle.wp_top.proofs.MadeDays.{any_brackets, good_plans}
use Rattle.wp_top.proofs.plan.end_day.Goals as goal
use Rattle.wp_top.specs.Ends.{of_run, plan_job}
use Rattle.wp_top.specs.Planned.{day_told}
use Rattle.wp_top.specs.Runs.{IsTextOf, command_count}
use Rattle.wp_top.specs.Stops.{StopsFor, of_store}
use Rattle.wp_top.specs.Stores.{disk_course}
use Rattle.wp_words.specs.Reading.{plan_names}

pub write_plans-requires-clause-own : goal.write_plans-requires-clause-own
write_plans-requires-clause-own g c = c.in-Ok.ensures.day.answers.starts

pub write_plans-requires-clause-told : goal.write_plans-requires-clause-told
write_plans-requires-clause-told g c = (c.args.files.now.warehouse.layout, c.in-Ok.ensures.day.start, c.in-Ok.ensures.day.told)

pub write_plans-requires-clause-dealt : goal.write_plans-requires-clause-dealt
write_plans-requires-clause-dealt g c = c.in-Ok.ensures.day.dealt

pub returns-in-Ok-clause-ended : goal.returns-in-Ok-clause-ended
returns-in-Ok-clause-ended g c = λ old new read.
    let D = g.D.Disk in
    let disk = disk_course (D.told c.args.disk.now) (D.told c.day_of.new.disk) in
    let files = c.args.files.now in
    let names = plan_names c.args.words.now in
    let over = c.in-Ok.ensures.day in
    let day = day_told over.start c.in-Ok.day.run in
    written_ended _ disk old new _ _ c.write_plans.result c.status_of.result
    (IsTextOf c.terms_of-terms.result day)
    (λ text is. plan_is disk old new names files.warehouse.layout files.warehouse.opening files.scripts day text read over.stored over.answers
    (rw c.terms_of-terms.ensures at (good_plans files.warehouse.layout c.terms_of-terms.result over.start c.in-Ok.day.run over.told))
    (rw c.terms_of-terms.ensures at is)
    (rw c.terms_of-terms.ensures at (any_brackets files.warehouse.layout c.in-Ok.day.run.machine.opening c.terms_of-terms.result c.in-Ok.day.run.plans.items
    over.told.planned)))
    c.status_of.ensures (c.write_plans.ensures.writes files.warehouse.layout over.start over.told)
    (IfErr-weaker c.write_plans.result _ _ (λ fault fails. inl fails) (c.write_plans.ensures.fails files.warehouse.layout over.start over.told))

pub returns-in-Ok-clause-early : goal.returns-in-Ok-clause-early
returns-in-Ok-clause-early g c =
    let over = c.in-Ok.ensures.day in
    let layout = c.args.files.now.warehouse.layout in
    written_early _ _ c.write_plans.result _ (c.write_plans.ensures.writes layout over.start over.told)
    (c.write_plans.ensures.fails layout over.start over.told)

pub returns-in-Err-clause-ended : goal.returns-in-Err-clause-ended
returns-in-Err-clause-ended g c = λ old new read.
    let D = g.D.Disk in
    let disk = disk_course (D.told c.args.disk.now) (D.told c.day_of.new.disk) in
    let files = c.args.files.now in
    let names = plan_names c.args.words.now in
    let why = c.in-Err.ensures in
    stopped_ended (Ok (plan_job c.args.words.now)) disk old new _ _ c.in-Err.why c.end_stopped.result c.end_stopped.ensures.ended
    (elim (cases_eq names.store 1) [
      | inl uses ↦ stop_at_store disk old new names files.warehouse.layout files.warehouse.opening files.scripts c.in-Err.why uses read (why.stops uses)
      | inr other ↦ subst (StopsFor (of_run (Ok (plan_job c.args.words.now)) disk old new)) (sym (why.memory other)) tt
    ])

pub returns-in-Ok-clause-read_all : goal.returns-in-Ok-clause-read_all
returns-in-Ok-clause-read_all g c = written_not_of_input c.write_plans.result c.status_of.result c.status_of.ensures

pub returns-in-Err-clause-read_all : goal.returns-in-Err-clause-read_all
returns-in-Err-clause-read_all g c =
    let D = g.D.Disk in
    let disk = disk_course (D.told c.args.disk.now) (D.told c.day_of.new.disk) in
    let files = c.args.files.now in
    let names = plan_names c.args.words.now in
    let why = c.in-Err.ensures in
    stopped_not_of_input disk files.warehouse.opening (command_count files.scripts) _ _ c.in-Err.why c.end_stopped.result (elim (cases_eq names.store 1) [
      | inl uses ↦ why.stops uses
      | inr other ↦ subst (StopsFor (of_store disk files.warehouse.opening (command_count files.scripts))) (sym (why.memory other)) tt
    ]) c.end_stopped.ensures.ended
