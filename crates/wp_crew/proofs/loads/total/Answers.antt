use Rattle.std.proofs.Common.{ℕ, arith}
use Rattle.std.proofs.lemmas.List.Sums.{sum_by_more_le, sum_by-take-le}
use Rattle.wp_crew.proofs.Deals.{sum_of_few}
use Rattle.wp_crew.proofs.loads.total.Goals as goal

pub overflow_add-total : goal.overflow_add-total
overflow_add-total c =
    omega (
      arith,
      c.loop-length.invariant,
      sum_by_more_le (λ (x : ℕ). x) c.args.lengths.now c.loop-length.length-index 0 c.loop-length-test.true,
      sum_of_few c.args.lengths.now c.requires,
    )

pub returns-clause-small : goal.returns-clause-small
returns-clause-small c =
    omega (
      arith,
      c.loop-length.invariant,
      sum_by-take-le (λ (x : ℕ). x) c.args.lengths.now c.loop-length.length-index,
      sum_of_few c.args.lengths.now c.requires,
    )
