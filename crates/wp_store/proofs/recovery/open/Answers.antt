use Rattle.std.proofs.Common.{sym, subst}
use Rattle.wp_store.specs.Disk.{SinceSyncs}
use Rattle.wp_store.specs.Records.{records_of}
use Rattle.wp_store.specs.Store.{StandsFor}
use Rattle.wp_store.proofs.recovery.open.Goals as goal

pub returns-clause-since_syncs : goal.returns-clause-since_syncs
returns-clause-since_syncs g c bytes told =
    subst (λ (d : g.row.D.Denot). SinceSyncs (g.D.Disk.told c.args.disk.now) (g.D.Disk.told d) (StandsFor (records_of bytes)))
    (sym c.open.ensures.disk) (c.recover.ensures.since_syncs bytes told)
