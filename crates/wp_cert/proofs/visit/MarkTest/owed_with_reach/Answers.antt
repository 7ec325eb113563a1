use Rattle.std.proofs.Common.{arith}
use Rattle.wp_cert.proofs.Entering.{as_many_duals, pairs_known, plain_owed}
use Rattle.wp_cert.proofs.Limits.{own_reach, own_total, reach_fits}
use Rattle.wp_cert.proofs.visit.MarkTest.owed_with_reach.Goals as goal

pub overflow_add-owed : goal.overflow_add-owed
overflow_add-owed c =
    let tested = c.args.self.now.tested in
    let fits = reach_fits tested.own.now.duals c.args.visit.now.duals c.requires.test.duals c.args.visit.now.pairing c.args.place.now.batch
    c.args.place.now.from c.reach_of.result (as_many_duals c.args.visit.now tested c.requires.test) c.reach_of.ensures in
    omega (arith, fits, c.requires.at.small, c.requires.at.size, c.room_at-room.ensures.few)

pub returns-then-owed-lt-MOST_DUAL : goal.returns-then-owed-lt-MOST_DUAL
returns-then-owed-lt-MOST_DUAL c =
    let tested = c.args.self.now.tested in
    let total = own_total tested.own.now.duals c.args.visit.now.duals c.requires.test.duals c.args.place.now.batch c.args.visit.now.pairing.orders
    c.args.place.now.sum (as_many_duals c.args.visit.now tested c.requires.test)
    (pairs_known c.args.visit.now tested c.requires.test c.args.place.now c.requires.at) c.requires.at.sum (omega (arith, c.if-owed-lt-MOST_DUAL.true)) in
    record {
      reach = c.reach_of.result;
      reaches = own_reach tested.own.now.duals c.args.visit.now.duals c.requires.test.duals c.args.visit.now.pairing c.args.place.now.batch
          c.args.place.now.from c.reach_of.result (as_many_duals c.args.visit.now tested c.requires.test) c.reach_of.ensures
          (omega (arith, c.if-owed-lt-MOST_DUAL.true));
      is = plain_owed tested c.args.place.now.batch c.reach_of.result _ (c.requires.plain c.if-self.true) (omega (arith, total));
    }
