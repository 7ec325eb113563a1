use Rattle.std.proofs.Common.{◌∙◌, [], Err, ap, arith, drop, length, length-append, subst}
use Rattle.std.proofs.lemmas.Result.{err_from_is_err_and}
use Rattle.std.specs.Result.{result_from_control_flow}
use Rattle.wp_desk.specs.GoingOn.{new_entries}
use Rattle.wp_journal.proofs.DayEntries.{day_entries}
use Rattle.wp_journal.proofs.Replayed.{lines_count}
use Rattle.wp_model.specs.History.{History}
use Rattle.wp_store.specs.declared.faults.OpenFault.{OpenFault}
use Rattle.wp_top.proofs.DaysOver.{after_recovered, appends_stop, are_new_of, from_recovered, open_stops, records_stop, stored_is_day, stored_over}
use Rattle.wp_top.proofs.Storing.{all_added, is_recovered, none_added, some_added}
use Rattle.wp_top.proofs.store.stored_day.Goals as goal
use Rattle.wp_top.specs.Runs.{AreNewOf, command_count}
use Rattle.wp_top.specs.Stores.{AreAllKept, disk_course}

-- where the store doesn't open
pub returns-in_err-recovered-clause-stops : goal.returns-in_err-recovered-clause-stops
returns-in_err-recovered-clause-stops g c =
    let D = g.D.Disk in
    let disk = disk_course (D.told c.args.disk.now) (D.told c.recover.new.disk) in
    let p = err_from_is_err_and c.from_residual.result c.from_residual.ensures.1 in
    let failed = c.branch-recovered.ensures ∙ ap result_from_control_flow c.in_err-recovered.is in
    rw (p.1, p.2)
    (open_stops disk c.args.files.now.warehouse.opening (command_count c.args.files.now.scripts) c.in_err-recovered.field-0.0
    (λ is. c.recover.ensures.failed (failed ∙ ap (λ (e : OpenFault). Err e) is))
    (λ is. c.recover.ensures.too_long (failed ∙ ap (λ (e : OpenFault). Err e) is)))

pub returns-in_err-recovered-clause-kept : goal.returns-in_err-recovered-clause-kept
returns-in_err-recovered-clause-kept g c =
    none_added (disk_course (g.D.Disk.told c.args.disk.now) (g.D.Disk.told c.recover.new.disk)) _ c.recover.ensures.any_moment c.recover.ensures.since_syncs
    c.recover.ensures.course

-- where its records are refused
pub returns-in_err-machine-clause-stops : goal.returns-in_err-machine-clause-stops
returns-in_err-machine-clause-stops g c =
    let D = g.D.Disk in
    let disk = disk_course (D.told c.args.disk.now) (D.told c.recover.new.disk) in
    let p = err_from_is_err_and c.from_residual-in_err-machine.result c.from_residual-in_err-machine.ensures.1 in
    rw (p.1, p.2)
    (records_stop disk c.args.files.now.warehouse.opening c.bodies.result.now (command_count c.args.files.now.scripts) c.in_err-machine.field-0.0
    (λ bytes told. c.bodies.ensures ∙ c.in_ok-recovered.ensures.records bytes told) c.in_err-machine.ensures.stops)

pub returns-in_err-machine-clause-kept : goal.returns-in_err-machine-clause-kept
returns-in_err-machine-clause-kept g c =
    none_added (disk_course (g.D.Disk.told c.args.disk.now) (g.D.Disk.told c.recover.new.disk)) _ c.recover.ensures.any_moment c.recover.ensures.since_syncs
    c.recover.ensures.course

-- where memory runs out before an entry is added
pub returns-in_err-day-clause-kept : goal.returns-in_err-day-clause-kept
returns-in_err-day-clause-kept g c =
    none_added (disk_course (g.D.Disk.told c.args.disk.now) (g.D.Disk.told c.recover.new.disk)) _ c.recover.ensures.any_moment c.recover.ensures.since_syncs
    c.recover.ensures.course

pub plan_day-requires-clause-few : goal.plan_day-requires-clause-few
plan_day-requires-clause-few g c =
    let begins = c.in_ok-machine.ensures.replayed in
    omega (arith, lines_count c.args.files.now.warehouse.opening c.bodies.result.now c.in_ok-machine.machine [] begins, c.in_ok-machine.ensures.few)

-- the new entries are those of a day, after those that were recovered
pub add_new-requires-clause-there : goal.add_new-requires-clause-there
add_new-requires-clause-there g c =
    let start = c.in_ok-machine.machine in
    let history = c.in_ok-day.day.run.machine in
    let entries = ap (λ (h : History). h.entries) c.in_ok-day.ensures.history.goes_on in
    omega (
      arith,
      ap length entries,
      length-append start.entries (new_entries start history),
      lines_count c.args.files.now.warehouse.opening c.bodies.result.now start [] c.in_ok-machine.ensures.replayed,
      ap length c.bodies.ensures,
    )

pub add_new-requires-clause-few : goal.add_new-requires-clause-few
add_new-requires-clause-few g c =
    let files = c.args.files.now in
    let start = c.in_ok-machine.machine in
    let begins = c.in_ok-machine.ensures.replayed in
    let few = c.in_ok-machine.ensures.few in
    let day = stored_is_day files.warehouse.opening files.scripts c.bodies.result.now start c.in_ok-day.day.run.machine files.warehouse.read c.requires begins
    few
    c.in_ok-day.ensures.history in
    omega (arith, day.1, lines_count files.warehouse.opening c.bodies.result.now start [] begins, few)

pub add_new-requires-clause-within : goal.add_new-requires-clause-within
add_new-requires-clause-within g c =
    let files = c.args.files.now in
    let history = c.in_ok-day.day.run.machine in
    let day = stored_is_day files.warehouse.opening files.scripts c.bodies.result.now c.in_ok-machine.machine history files.warehouse.read c.requires
    c.in_ok-machine.ensures.replayed c.in_ok-machine.ensures.few c.in_ok-day.ensures.history in
    day_entries history day.0

-- where one isn't added
pub returns-in_err-add_new-clause-stops : goal.returns-in_err-add_new-clause-stops
returns-in_err-add_new-clause-stops g c =
    let told = g.D.Disk.told in
    let p = err_from_is_err_and c.from_residual-in_err-add_new.result c.from_residual-in_err-add_new.ensures.1 in
    rw (p.1, p.2)
    (appends_stop (told c.args.disk.now) (told c.recover.new.disk) (told c.add_new.new.disk) c.args.files.now.warehouse.opening
    (command_count c.args.files.now.scripts) c.in_err-add_new.field-0.0 c.recover.ensures.course.faults c.in_err-add_new.ensures.stops)

pub returns-in_err-add_new-clause-kept : goal.returns-in_err-add_new-clause-kept
returns-in_err-add_new-clause-kept g c =
    let told = g.D.Disk.told in
    let files = c.args.files.now in
    let ok = c.in_ok-recovered.ensures in
    some_added (told c.args.disk.now) (told c.recover.new.disk) (told c.add_new.new.disk)
    (drop (length c.in_ok-recovered.recovered.bodies) c.in_ok-day.day.run.machine.entries)
    (AreNewOf (told c.args.disk.now).holds files.warehouse.opening files.scripts) (g.met.D.Disk.is_disk _) (g.met.D.Disk.is_disk _)
    (is_recovered _ _ c.recover.ensures.any_moment c.recover.ensures.since_syncs c.recover.ensures.course ok.synced ok.same) c.add_new.ensures.course
    c.add_new.ensures.some
    (are_new_of _ files.warehouse.opening files.scripts c.in_ok-recovered.recovered.bodies c.bodies.result.now c.in_ok-machine.machine
    c.in_ok-day.day.run.machine
    c.bodies.ensures ok.records c.in_ok-machine.ensures.replayed c.in_ok-machine.ensures.few ok.short c.in_ok-day.ensures.history)

-- where all are
pub returns-clause-kept : goal.returns-clause-kept
returns-clause-kept g c =
    let told = g.D.Disk.told in
    let files = c.args.files.now in
    let ok = c.in_ok-recovered.ensures in
    some_added (told c.args.disk.now) (told c.recover.new.disk) (told c.add_new.new.disk)
    (drop (length c.in_ok-recovered.recovered.bodies) c.in_ok-day.day.run.machine.entries)
    (AreNewOf (told c.args.disk.now).holds files.warehouse.opening files.scripts) (g.met.D.Disk.is_disk _) (g.met.D.Disk.is_disk _)
    (is_recovered _ _ c.recover.ensures.any_moment c.recover.ensures.since_syncs c.recover.ensures.course ok.synced ok.same) c.add_new.ensures.course
    c.add_new.ensures.some
    (are_new_of _ files.warehouse.opening files.scripts c.in_ok-recovered.recovered.bodies c.bodies.result.now c.in_ok-machine.machine
    c.in_ok-day.day.run.machine
    c.bodies.ensures ok.records c.in_ok-machine.ensures.replayed c.in_ok-machine.ensures.few ok.short c.in_ok-day.ensures.history)

pub returns-clause-day : goal.returns-clause-day
returns-clause-day g c = λ store uses.
    let told = g.D.Disk.told in
    let disk = disk_course (told c.args.disk.now) (told c.add_new.new.disk) in
    let files = c.args.files.now in
    let opening = files.warehouse.opening in
    let ok = c.in_ok-recovered.ensures in
    stored_over disk store files.warehouse.layout opening c.args.terms.now files.scripts c.in_ok-machine.machine c.in_ok-day.day uses
    (from_recovered disk.old.holds opening (command_count files.scripts) c.in_ok-recovered.recovered.bodies c.bodies.result.now c.in_ok-machine.machine
    c.bodies.ensures
    ok.records c.in_ok-machine.ensures.replayed c.in_ok-machine.ensures.few ok.short)
    c.in_ok-day.ensures.history c.in_ok-day.ensures.told c.in_ok-day.ensures.dealt
    (subst (AreAllKept disk)
    (after_recovered opening c.in_ok-recovered.recovered.bodies c.bodies.result.now c.in_ok-machine.machine c.in_ok-day.day.run.machine c.bodies.ensures
    c.in_ok-machine.ensures.replayed)
    (all_added (told c.args.disk.now) (told c.recover.new.disk) (told c.add_new.new.disk)
    (drop (length c.in_ok-recovered.recovered.bodies) c.in_ok-day.day.run.machine.entries)
    (g.met.D.Disk.is_disk _) (g.met.D.Disk.is_disk _)
    (is_recovered _ _ c.recover.ensures.any_moment c.recover.ensures.since_syncs c.recover.ensures.course ok.synced ok.same) c.add_new.ensures.course
    c.in_ok-add_new.ensures.all (c.in_ok-add_new.ensures.sound (λ failed. cc failed) ∙ ok.sound (λ failed. cc failed))))
