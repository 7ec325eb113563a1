use Rattle.std.proofs.Common.{arith}
use Rattle.wp_cert.proofs.Entering.{as_many_duals, pairs_known, plain_owed}
use Rattle.wp_cert.proofs.Limits.{own_total}
use Rattle.wp_cert.proofs.visit.MarkTest.owed.Goals as goal

pub returns-then-place-lt-MOST_DUAL : goal.returns-then-place-lt-MOST_DUAL
returns-then-place-lt-MOST_DUAL c =
    let tested = c.args.self.now.tested in
    let total = own_total tested.own.now.duals c.args.visit.now.duals c.requires.test.duals c.args.place.now.batch c.args.visit.now.pairing.orders
    c.args.place.now.sum (as_many_duals c.args.visit.now tested c.requires.test)
    (pairs_known c.args.visit.now tested c.requires.test c.args.place.now c.requires.at) c.requires.at.sum (omega arith) in
    plain_owed tested c.args.place.now.batch 0 c.args.place.now.sum (c.requires.plain c.if-self.true) (omega (arith, total))
