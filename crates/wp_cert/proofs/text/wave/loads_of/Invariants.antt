use Rattle.std.proofs.Common.{◌≡◌, take}
use Rattle.wp_cert.proofs.text.wave.loads_of.Given as goal

abbrev pub invariant-loop-load : goal.invariant-loop-load
invariant-loop-load l = l.kept.items ≡ take l.load-index l.fn.loads
