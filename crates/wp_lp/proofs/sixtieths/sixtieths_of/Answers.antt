use Rattle.std.proofs.Common.{◌≡◌, ◌<◌, pos, arith}
use Rattle.std.proofs.lemmas.Int.{ints}
use Rattle.wp_lp.proofs.RoundedDown.{sixtieths_are}
use Rattle.wp_lp.proofs.sixtieths.sixtieths_of.Goals as goal

pub returns-clause-is : goal.returns-clause-is
returns-clause-is c =
    let value : pos c.natural.result ≡ c.args.value = omega (arith, ints, c.natural.ensures) in
    let denominator : pos c.natural-2.result ≡ c.args.denominator = omega (arith, ints, c.natural-2.ensures) in
    let above : 0 < c.natural-2.result = omega (arith, ints, denominator, c.requires.above) in
    sixtieths_are c.args.value c.args.denominator c.natural.result c.natural-2.result c.quotient.result value denominator above c.quotient.ensures.is
