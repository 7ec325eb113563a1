use Rattle.std.proofs.Common.{◌≡◌, ◌++◌, take}
use Rattle.std.specs.List.{flat_map}
use Rattle.wp_outgoing.specs.Lines.{sending_lines}
use Rattle.wp_outgoing.proofs.lines.append_sendings.Given as goal

-- the lines of the waves so far were written
abbrev pub invariant-loop-wave : goal.invariant-loop-wave
invariant-loop-wave l = l.text.items ≡ l.fn.text.items ++ flat_map (sending_lines l.desk) (take l.wave-index l.waves)
