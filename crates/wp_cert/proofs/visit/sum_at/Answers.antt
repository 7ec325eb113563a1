use Rattle.std.proofs.Common.{◌∙◌, arith}
use Rattle.wp_cert.proofs.Entering.{as_many_duals, pairs_known}
use Rattle.wp_cert.proofs.Limits.{own_total}
use Rattle.wp_cert.proofs.visit.sum_at.Goals as goal

pub returns-then-place-lt-MOST_DUAL : goal.returns-then-place-lt-MOST_DUAL
returns-then-place-lt-MOST_DUAL c = c.from.ensures
    ∙ own_total c.args.tested.now.own.now.duals c.args.visit.now.duals c.requires.test.duals c.args.place.now.batch c.args.visit.now.pairing.orders
    c.args.place.now.sum (as_many_duals c.args.visit.now c.args.tested.now c.requires.test)
    (pairs_known c.args.visit.now c.args.tested.now c.requires.test c.args.place.now c.requires.at) c.requires.at.sum (omega arith)
