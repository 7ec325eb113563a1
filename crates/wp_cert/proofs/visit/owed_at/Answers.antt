use Rattle.std.proofs.Common.{arith}
use Rattle.wp_cert.proofs.visit.owed_at.Goals as goal

pub returns : goal.returns
returns c = λ most small.
    let is = c.owed.ensures most small in (
      λ low. let paid = is.0 low in omega (arith, paid, c.sum_at.ensures, c.requires.off),
      λ low. is.1 (omega (arith, low, c.sum_at.ensures, c.requires.off)),
    )
