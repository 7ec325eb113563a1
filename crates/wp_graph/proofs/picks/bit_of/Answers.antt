use Rattle.std.proofs.Common.{◌-◌, arith}
use Rattle.std.proofs.lemmas.Nat.{one_shl}
use Rattle.wp_graph.proofs.picks.bit_of.Goals as goal

pub returns : goal.returns
returns c = one_shl (64 - c.args.aisle) 64 (omega (arith, c.requires))
