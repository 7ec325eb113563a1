use Rattle.std.proofs.Common.{◌≡◌, ◌++◌, length, reverse}
use Rattle.std.specs.List.{list_any}
use Rattle.wp_floor.specs.Waves.{is_named}
use Rattle.wp_floor.proofs.waves.take_off.Given as goal

abbrev pub invariant-loop-wave : goal.invariant-loop-wave
invariant-loop-wave l = record {
  parts : l.fn.chain ≡ l.chain ++ reverse l.after;
  nobody : list_any (is_named l.name) l.fn.chain ≡ list_any (is_named l.name) l.chain;
}

abbrev pub decreases-loop-wave : goal.decreases-loop-wave
decreases-loop-wave l = length l.chain
