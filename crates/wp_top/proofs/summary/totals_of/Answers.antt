use Rattle.std.proofs.Common.{arith, length, refl}
use Rattle.std.proofs.lemmas.Option.{slice_get_read}
use Rattle.wp_top.proofs.MadeDays.{proven_more, total_bound_more, total_cost_more}
use Rattle.wp_top.proofs.summary.totals_of.Goals as goal

pub loop-one-preserved : goal.loop-one-preserved
loop-one-preserved c =
    let sent = c.args.planned.now in
    let i = c.loop-one.one-index in
    let at = slice_get_read sent (length sent) i c.one-item.result refl c.loop-one-test.true c.one-item.is in
    let before = c.loop-one.invariant in
    record {
      cost = omega (arith, before.cost, c.with-totals.ensures.cost, total_cost_more sent i c.one-item.result at);
      bound = omega (arith, before.bound, c.with-totals.ensures.bound, total_bound_more sent i c.one-item.result at);
      proven = omega (arith, before.proven, c.with-totals.ensures.proven, proven_more sent i c.one-item.result at);
      few_cost = omega (arith, before.few_cost, c.with-totals.ensures.few_cost);
      few_bound = omega (arith, before.few_bound, c.with-totals.ensures.few_bound);
      few_proven = omega (arith, before.few_proven, c.with-totals.ensures.few_proven);
    }
