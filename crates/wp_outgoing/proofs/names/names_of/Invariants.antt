use Rattle.std.proofs.Common.{◌≡◌, All, take, true}
use Rattle.wp_model.specs.Name.{is_name}
use Rattle.wp_outgoing.specs.Names.{AreNamesOf}
use Rattle.wp_waves.specs.Filling.{waves_kept}
use Rattle.wp_outgoing.proofs.names.names_of.Given as goal

-- the names so far are those of the waves so far, and are names
abbrev pub invariant-loop-wave : goal.invariant-loop-wave
invariant-loop-wave g l =
    AreNamesOf (g.N.WaveNames.names l.submitted) (waves_kept (take l.wave-index l.waves)) l.names.items
    × All (λ name. is_name name ≡ true) l.names.items
