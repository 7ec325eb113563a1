use Rattle.std.proofs.Common.{take}
use Rattle.wp_waves_out.specs.Starts.{AreStarts}
use Rattle.wp_waves_out.proofs.starts.starts_of.Given as goal

-- the starts so far
abbrev pub invariant-loop-wave : goal.invariant-loop-wave
invariant-loop-wave g l = AreStarts l.planning.layout.now l.planning.opening.now l.planning.terms.now.capacity (take l.wave-index l.sent) l.starts.items
