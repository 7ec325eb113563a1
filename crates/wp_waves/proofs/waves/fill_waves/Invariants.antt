use Rattle.std.proofs.Common.{take}
use Rattle.wp_waves.specs.Filling.{AreFilled, waves_kept}
use Rattle.wp_waves.proofs.waves.fill_waves.Given as goal

-- the waves so far are those of the orders so far
abbrev pub invariant-loop-one : goal.invariant-loop-one
invariant-loop-one l = AreFilled l.most (take l.one-index l.served) (waves_kept l.waves.items)
