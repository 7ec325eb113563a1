use Rattle.std.proofs.Common.{Ok}
use Rattle.wp_top.proofs.Endings.{stopped_ended}
use Rattle.wp_top.proofs.Jobs.{new_in_plan, some_kept_as, stop_of}
use Rattle.wp_top.proofs.Storing.{untouched_kept}
use Rattle.wp_top.proofs.plan.run_plan.Goals as goal
use Rattle.wp_top.specs.Ends.{AreNewIn}
use Rattle.wp_top.specs.Runs.{AreNewOf}
use Rattle.wp_top.specs.Stores.{disk_course}
use Rattle.wp_words.specs.Reading.{plan_names}
use Rattle.wp_words.specs.Words.{plan}

pub returns-in-Ok-clause-ended : goal.returns-in-Ok-clause-ended
returns-in-Ok-clause-ended g c =
    let read = c.in-Ok.ensures in
    c.end_day.ensures.ended _ _ (record { said = read.said; units = read.units; all = read.all })

pub returns-in-Err-clause-ended : goal.returns-in-Err-clause-ended
returns-in-Err-clause-ended g c =
    let D = g.D.Disk in
    let disk = disk_course (D.told c.args.disk.now) (D.told c.args.disk.now) in
    let told = g.F.Files.told in
    let names = plan_names c.args.words.now in
    stopped_ended (Ok (plan names)) disk (told c.args.files.now) (told c.read_day.new.files) _ _ c.in-Err.why c.end_stopped.result c.end_stopped.ensures.ended
    (stop_of disk (told c.args.files.now) (told c.read_day.new.files) (plan names) c.in-Err.why c.in-Err.ensures.stops)

-- where a file isn't read the disk is as it was
pub returns-in-Err-clause-kept : goal.returns-in-Err-clause-kept
returns-in-Err-clause-kept g c = λ uses.
    untouched_kept (g.D.Disk.told c.args.disk.now) _ (g.met.D.Disk.is_disk c.args.disk.now)

pub returns-in-Ok-clause-kept : goal.returns-in-Ok-clause-kept
returns-in-Ok-clause-kept g c = λ uses.
    let D = g.D.Disk in
    let disk = disk_course (D.told c.args.disk.now) (D.told c.end_day.new.disk) in
    let held = disk.old.holds in
    let told = g.F.Files.told in
    let names = plan_names c.args.words.now in
    let day = c.in-Ok.day in
    let read = c.in-Ok.ensures in
    some_kept_as disk (AreNewOf held day.warehouse.opening day.scripts) (AreNewIn (Ok (plan names)) held (told c.args.files.now) (told c.read_day.new.files))
    (λ entries are. new_in_plan held (told c.args.files.now) (told c.read_day.new.files) names day.warehouse.layout day.warehouse.opening day.scripts entries
    (record { said = read.said; units = read.units; all = read.all }) are)
    (c.end_day.ensures.kept uses)

pub returns-in-Ok-clause-unopened : goal.returns-in-Ok-clause-unopened
returns-in-Ok-clause-unopened g c = λ of. absurd (c.end_day.ensures.read_all of)
