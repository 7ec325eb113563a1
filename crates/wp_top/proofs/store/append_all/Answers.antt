use Rattle.std.proofs.Common.{ap}
use Rattle.wp_store.specs.Records.{records_of}
use Rattle.wp_top.proofs.store.append_all.Goals as goal

-- what is there before is on the disk
pub append_each-added-requires-clause-durable : goal.append_each-added-requires-clause-durable
append_each-added-requires-clause-durable g c = λ bytes told image now.
    ap records_of ((c.requires.settled bytes (rw c.into_store-store.ensures.disk at told)).durable image (rw c.into_store-store.ensures.disk at now))
