use Rattle.std.specs.Prelude.{⊤}
use Rattle.wp_cert.proofs.levels.wide_orders.Given as goal

abbrev pub invariant-loop-order : goal.invariant-loop-order
invariant-loop-order l = ⊤
