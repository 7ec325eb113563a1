use Rattle.std.proofs.Common.{ℕ, List, ap, arith}
use Rattle.std.specs.Prelude.{sum}
use Rattle.wp_lengths.proofs.DualBounds.{sum_small}
use Rattle.wp_lengths.proofs.duals.OrderDuals.total.Goals as goal

pub overflow_cast-result : goal.overflow_cast-result
overflow_cast-result c = omega (
  arith,
  sum_small c.self.inside.values.items c.self.invariant,
  c.total_of.ensures,
  ap (λ (duals : List ℕ). sum duals) c.as_slice.ensures.value,
)

pub returns-clause-small : goal.returns-clause-small
returns-clause-small c = omega (
  arith,
  sum_small c.self.inside.values.items c.self.invariant,
  c.total_of.ensures,
  ap (λ (duals : List ℕ). sum duals) c.as_slice.ensures.value,
)
