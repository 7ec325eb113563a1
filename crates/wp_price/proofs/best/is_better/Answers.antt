use Rattle.std.proofs.Common.{arith, sym, ◌∙◌}
use Rattle.wp_price.proofs.Lists.{before_one_way}
use Rattle.wp_price.proofs.best.is_better.Goals as goal

pub returns-then-next-best-clause-better : goal.returns-then-next-best-clause-better
returns-then-next-best-clause-better c = λ yes. record {
  low = omega (arith, c.if-next-best.true);
  first = λ e. before_one_way c.args.next.now.batch c.args.best.now.batch (sym c.comes_first.ensures ∙ yes);
}
