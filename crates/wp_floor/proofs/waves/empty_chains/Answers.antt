use Rattle.std.proofs.Common.{◌≡◌, ◌∙◌, ap, replicate, arith}
use Rattle.wp_floor.specs.Waves.{chain_count}
use Rattle.wp_floor.proofs.WaveChains.{the_empty}
use Rattle.wp_floor.proofs.waves.empty_chains.Goals as goal

pub returns : goal.returns
returns c = let all : c.loop.counter ≡ chain_count = omega arith in c.loop.invariant ∙ ap (λ n. replicate n the_empty) all
