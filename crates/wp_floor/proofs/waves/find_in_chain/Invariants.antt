use Rattle.std.proofs.Common.{◌≡◌, ◌++◌, List, length}
use Rattle.std.specs.List.{list_any}
use Rattle.wp_floor.specs.Waves.{is_named}
use Rattle.wp_floor.specs.declared.waves.NumberedWave.{NumberedWave}
use Rattle.wp_floor.proofs.waves.find_in_chain.Given as goal

abbrev pub invariant-loop-wave : goal.invariant-loop-wave
invariant-loop-wave l = record {
  nobody : list_any (is_named l.name) l.at ≡ list_any (is_named l.name) l.chain;
  parts : (above : List NumberedWave) × (l.chain ≡ l.at ++ above);
}

abbrev pub decreases-loop-wave : goal.decreases-loop-wave
decreases-loop-wave l = length l.at
