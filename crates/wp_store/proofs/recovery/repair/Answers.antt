use Rattle.std.proofs.Common.{refl, ◌∙◌}
use Rattle.wp_store.specs.Records.{records_of}
use Rattle.wp_store.specs.Store.{StandsFor}
use Rattle.wp_store.proofs.Moments.{joined, stays}
use Rattle.wp_store.proofs.recovery.repair.Goals as goal

pub returns-in_err-bytes-clause-any_moment : goal.returns-in_err-bytes-clause-any_moment
returns-in_err-bytes-clause-any_moment g c bytes told =
    stays _ _ bytes (StandsFor (records_of bytes)) (g.met.D.Disk.is_disk _) refl (c.requires.durable bytes told) c.read.ensures.calls

pub returns-in_err-found-clause-any_moment : goal.returns-in_err-found-clause-any_moment
returns-in_err-found-clause-any_moment g c bytes told =
    stays _ _ bytes (StandsFor (records_of bytes)) (g.met.D.Disk.is_disk _) refl (c.requires.durable bytes told) c.read.ensures.calls

pub returns-clause-any_moment : goal.returns-clause-any_moment
returns-clause-any_moment g c bytes told =
    joined _ _ _ (StandsFor (records_of bytes))
    (stays _ _ bytes (StandsFor (records_of bytes)) (g.met.D.Disk.is_disk _) refl (c.requires.durable bytes told) c.read.ensures.calls)
    (c.close.ensures.any_moment bytes (c.read.ensures.same ∙ told))
