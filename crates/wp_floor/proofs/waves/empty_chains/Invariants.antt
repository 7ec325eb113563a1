use Rattle.std.proofs.Common.{◌≡◌, [], replicate}
use Rattle.wp_floor.proofs.waves.empty_chains.Given as goal

abbrev pub invariant-loop : goal.invariant-loop
invariant-loop l = l.chains.items ≡ replicate l.counter []
