use Rattle.std.proofs.Common.{take}
use Rattle.wp_outgoing.specs.WavesOut.{AreOut}
use Rattle.wp_waves.specs.Filling.{waves_kept}
use Rattle.wp_outgoing.proofs.waves_out.with_names.Given as goal

-- the waves so far
abbrev pub invariant-loop-place : goal.invariant-loop-place
invariant-loop-place l = AreOut (take l.place l.names) (waves_kept (take l.place l.waves)) (take l.place l.starts) l.out.items
