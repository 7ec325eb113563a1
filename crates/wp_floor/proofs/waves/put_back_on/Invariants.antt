use Rattle.std.proofs.Common.{◌≡◌, ◌++◌, length, reverse}
use Rattle.wp_floor.proofs.waves.put_back_on.Given as goal

abbrev pub invariant-loop-wave : goal.invariant-loop-wave
invariant-loop-wave l = l.chain ++ reverse l.after ≡ l.fn.chain ++ reverse l.fn.after

abbrev pub decreases-loop-wave : goal.decreases-loop-wave
decreases-loop-wave l = length l.after
