use Rattle.std.proofs.Common.{refl}
use Rattle.wp_floor.proofs.WaveChains.{none_in_empty}
use Rattle.wp_floor.proofs.waves.Waves.open.Goals as goal

pub returns-clause-waves : goal.returns-clause-waves
returns-clause-waves c = (none_in_empty (record { chains = c.in_ok-chains.chains; count = 0 }) refl c.in_ok-chains.ensures).0
