use Rattle.std.proofs.Common.{◌≡◌, ◌++◌, take}
use Rattle.std.specs.List.{flat_map}
use Rattle.wp_outgoing.specs.Lines.{wave_line}
use Rattle.wp_outgoing.proofs.lines.append_waves.Given as goal

-- the lines of the waves so far were written
abbrev pub invariant-loop-wave : goal.invariant-loop-wave
invariant-loop-wave l = l.text.items ≡ l.fn.text.items ++ flat_map wave_line (take l.wave-index l.waves)
