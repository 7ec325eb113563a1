use Rattle.std.proofs.Common.{arith, sym, ◌∙◌, ◌≡◌}
use Rattle.wp_price.proofs.Lists.{before_by_rest, shorter}
use Rattle.wp_price.proofs.best.+comes_first.Goals as goal

pub comes_first-requires : goal.comes_first-requires
comes_first-requires t c = (
  omega (
    arith,
    c.decreases,
    shorter c.args.left c.without.result c.in-Some-Some.first c.least.ensures.valid.ascending c.without.ensures.valid.ascending
        (sym c.in-Some-Some.ensures.first) c.without.ensures.orders,
  ),
  tt,
)

pub returns-else-second-first : goal.returns-else-second-first
returns-else-second-first t c =
    let same : c.in-Some-Some.first ≡ c.in-Some-Some.second = omega (arith, c.if-first-second.false, c.if-second-first.false) in
    c.comes_first.ensures ∙ before_by_rest c.args.left c.args.right c.without.result c.without-else-second-first.result c.in-Some-Some.first
    c.in-Some-Some.second (sym c.in-Some-Some.ensures.first) (sym c.in-Some-Some.ensures'.first) same c.least.ensures.valid.ascending
    c.least-2.ensures.valid.ascending c.without.ensures.valid.ascending c.without-else-second-first.ensures.valid.ascending c.without.ensures.orders
    c.without-else-second-first.ensures.orders
