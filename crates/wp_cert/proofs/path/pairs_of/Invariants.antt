use Rattle.std.proofs.Common.{◌≡◌, take}
use Rattle.wp_cert.specs.Paths.{pairing_of}
use Rattle.wp_cert.proofs.path.pairs_of.Given as goal

abbrev pub invariant-loop-k : goal.invariant-loop-k
invariant-loop-k l = l.pairs ≡ pairing_of l.wave l.fn.capacity.most (take l.k l.path.items)
