use Rattle.wp_fast.proofs.Stepping.{stepping_composes}
use Rattle.wp_fast.proofs.laws.stepping_is_composing.Goals as goal

pub returns : goal.returns
returns c = stepping_composes
