use Rattle.wp_batch.proofs.Replacing.{replaced_is_batching}
use Rattle.wp_batch.proofs.split.replace.Goals as goal

pub returns-clause-batching : goal.returns-clause-batching
returns-clause-batching c = replaced_is_batching _ _ _ _ _ c.args.split c.requires.batching c.requires.split
