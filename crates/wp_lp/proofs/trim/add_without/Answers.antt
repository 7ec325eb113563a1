use Rattle.std.proofs.Common.{◌<◌, ℕ, arith, length}
use Rattle.std.proofs.lemmas.List.Elements.{All-contains}
use Rattle.std.proofs.lemmas.Result.{on_ok_weaker}
use Rattle.wp_lengths.proofs.FewerOrders.{more_orders_no_shorter}
use Rattle.wp_lengths.proofs.Unions.{all_from_contained}
use Rattle.wp_lp.proofs.Holds.{some_permitted}
use Rattle.wp_lp.proofs.Trims.{cut_part}
use Rattle.wp_lp.proofs.trim.add_without.Goals as goal

pub batch_length-length-requires : goal.batch_length-length-requires
batch_length-length-requires c = all_from_contained (λ (o : ℕ). o < length c.args.given.now.wave.now.orders) c.without-batch.result
    (λ order is. let low = All-contains (λ (o : ℕ). o < c.args.given.now.pairs.now.orders) c.args.part.now.batch order c.requires.part.permitted.known
    ((c.without-batch.ensures.orders order).0 is).0 in omega (arith, low, c.args.given.now.as_many))

pub returns-clause-trimmed : goal.returns-clause-trimmed
returns-clause-trimmed c = on_ok_weaker c.add_part.result
    (λ added. cut_part c.args.part.now c.args.order c.args.weight c.without-batch.result c.batch_length-length.result _ _
    c.without-batch.ensures.orders
    (more_orders_no_shorter c.args.given.now.wave.now c.without-batch.result c.args.part.now.batch _ _
    (λ order is. ((c.without-batch.ensures.orders order).0 is).0) c.batch_length-length.ensures.is c.requires.part.long) added) c.add_part.ensures

pub returns-clause-each : goal.returns-clause-each
returns-clause-each c = on_ok_weaker c.add_part.result (λ added old. added.each c.args.given.now.wave.now c.args.given.now.pairs.now old (λ some. record {
  permitted = some_permitted c.args.given.now.pairs.now c.args.part.now.batch c.without-batch.result c.args.given.now.undecided c.requires.part.permitted
      c.without-batch.ensures.valid.ascending some (λ order is. ((c.without-batch.ensures.orders order).0 is).0);
  long = c.batch_length-length.ensures.is;
})) c.add_part.ensures
