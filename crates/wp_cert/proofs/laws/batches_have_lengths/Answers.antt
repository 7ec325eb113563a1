use Rattle.wp_cert.proofs.HaveLengths.{each_has_length}
use Rattle.wp_cert.proofs.laws.batches_have_lengths.Goals as goal

pub returns : goal.returns
returns c = each_has_length
