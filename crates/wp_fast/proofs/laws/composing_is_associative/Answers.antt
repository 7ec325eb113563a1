use Rattle.wp_fast.proofs.Composing.{composed_alike}
use Rattle.wp_fast.proofs.laws.composing_is_associative.Goals as goal

pub returns : goal.returns
returns c = composed_alike
