use Rattle.std.proofs.Common.{pos, ◌≤ℤ◌, arith}
use Rattle.std.proofs.lemmas.Int.{ints}
use Rattle.wp_lp.proofs.Law.{feasible_from_least}
use Rattle.wp_lp.proofs.round.priced.Goals as goal

pub returns-clause-none : goal.returns-clause-none
returns-clause-none g c =
    let above : pos 0 ≤ℤ c.in-Some.best.slack = omega (arith, ints, c.if-best-lt0.false) in
    feasible_from_least c.args.given.now.wave.now c.args.given.now.pairs.now c.args.sixtieths.now.items c.in-Some.best.batch c.in-Some.best.slack
    (rw c.in-Some.is at c.in_ok-found.ensures.least) above
