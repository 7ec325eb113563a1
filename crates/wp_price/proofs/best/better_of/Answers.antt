use Rattle.std.proofs.Common.{arith, refl, inl, inr, rules}
use Rattle.wp_price.proofs.Lists.{never_before_itself}
use Rattle.wp_price.proofs.best.better_of.Goals as goal

pub returns-then-is_better : goal.returns-then-is_better
returns-then-is_better c = record {
  either = inl refl;
  next_no_better = record { low = omega arith; first = λ e. never_before_itself c.args.next.batch };
  best_no_better = rw c.in-Some.is (c.is_better.ensures.better c.if-is_better.true);
}

pub returns-else-is_better : goal.returns-else-is_better
returns-else-is_better c = record {
  either = inr c.in-Some.is;
  next_no_better = c.is_better.ensures.no_better c.if-is_better.false;
  best_no_better = rw c.in-Some.is (record { low = omega arith; first = λ e. never_before_itself c.in-Some.best.batch });
}

pub returns-in-None : goal.returns-in-None
returns-in-None c = record {
  either = inl refl;
  next_no_better = record { low = omega arith; first = λ e. never_before_itself c.args.next.batch };
  best_no_better = rw c.in-None.is (search rules);
}
