use Rattle.std.proofs.Common.{refl}
use Rattle.wp_draws.specs.Draws.{draw_at}
use Rattle.wp_draws.proofs.draws.Draws.below.Goals as goal

pub returns-clause-value : goal.returns-clause-value
unfolding draw_at
returns-clause-value c = refl
