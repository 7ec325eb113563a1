use Rattle.std.proofs.Common.{length}
use Rattle.wp_store.specs.Disk.{Stays, Torn}
use Rattle.wp_store.proofs.Moments.{course_joined, stepped, stepped_and_synced, synced_course, unsynced_course}
use Rattle.wp_store.proofs.Tearing.{torn_not}
use Rattle.wp_store.proofs.steps.write_and_sync.Goals as goal

pub returns-in_err-write_at-clause-any_moment : goal.returns-in_err-write_at-clause-any_moment
returns-in_err-write_at-clause-any_moment g c bytes told =
    stepped (Torn c.args.place (length c.args.piece.now)) _ _ bytes (g.met.D.Disk.is_disk _) (torn_not _ _ bytes)
    (c.requires.durable bytes told) c.write_at.ensures.calls

pub returns-clause-any_moment : goal.returns-clause-any_moment
returns-clause-any_moment g c bytes told =
    stepped_and_synced (Torn c.args.place (length c.args.piece.now)) _ (g.D.Disk.told c.write_at.new.self) _ bytes (g.met.D.Disk.is_disk _) (torn_not _ _ bytes)
    (c.requires.durable bytes told) c.write_at.ensures.calls c.sync.ensures.calls

pub returns-clause-course : goal.returns-clause-course
returns-clause-course g c =
    course_joined 1 1 0 1 _ _ _ (unsynced_course (Torn c.args.place (length c.args.piece.now)) _ _ c.write_at.ensures.calls c.write_at.ensures.unsynced)
    (synced_course Stays _ _ c.sync.ensures.calls)
