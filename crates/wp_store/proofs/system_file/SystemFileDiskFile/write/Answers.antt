use Rattle.std.proofs.Common.{ap, arith}
use Rattle.wp_store.proofs.Tearing.{torn_not}
use Rattle.wp_store.proofs.Untold.{untold_call}
use Rattle.wp_store.specs.Untold.{Counts}
use Rattle.wp_store.proofs.system_file.SystemFileDiskFile.write.Goals as goal

pub returns-clause-calls : goal.returns-clause-calls
returns-clause-calls g c =
    untold_call _ _ _ (torn_not _ _) (omega (arith, c.told.ensures.rises, ap (λ (counts : Counts). counts.faults) c.self.view_is))
    (omega (arith, c.told.ensures.called, ap (λ (counts : Counts). counts.calls) c.self.view_is))
