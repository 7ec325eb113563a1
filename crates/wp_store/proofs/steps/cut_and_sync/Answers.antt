use Rattle.wp_store.specs.Disk.{Cut, Stays}
use Rattle.wp_store.proofs.Moments.{course_joined, stepped, stepped_and_synced, synced_course, unsynced_course}
use Rattle.wp_store.proofs.Tearing.{cut_not}
use Rattle.wp_store.proofs.steps.cut_and_sync.Goals as goal

pub returns-in_err-cut-clause-any_moment : goal.returns-in_err-cut-clause-any_moment
returns-in_err-cut-clause-any_moment g c bytes told =
    stepped (Cut c.args.size) _ _ bytes (g.met.D.Disk.is_disk _) (cut_not _ bytes) (c.requires.durable bytes told) c.cut.ensures.calls

pub returns-clause-any_moment : goal.returns-clause-any_moment
returns-clause-any_moment g c bytes told =
    stepped_and_synced (Cut c.args.size) _ (g.D.Disk.told c.cut.new.self) _ bytes (g.met.D.Disk.is_disk _) (cut_not _ bytes)
    (c.requires.durable bytes told) c.cut.ensures.calls c.sync.ensures.calls

pub returns-clause-course : goal.returns-clause-course
returns-clause-course g c =
    course_joined 1 1 0 1 _ _ _ (unsynced_course (Cut c.args.size) _ _ c.cut.ensures.calls c.cut.ensures.unsynced)
    (synced_course Stays _ _ c.sync.ensures.calls)
