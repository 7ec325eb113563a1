use Rattle.std.proofs.Common.{arith, true, ◌≡◌}
use Rattle.std.proofs.lemmas.Bool.{both_ways}
use Rattle.wp_pairs.proofs.Unions.{negated, unnegated}
use Rattle.wp_cert.proofs.TreeNodes.{adds_to_empty, dead_from, not_dead_from}
use Rattle.wp_cert.proofs.path.is_dead.Goals as goal

pub returns : goal.returns
returns c =
    let pairing = c.args.pairs.now in
    let adds = adds_to_empty pairing c.empty.result c.joined_to.result c.union.result c.args.order c.empty.ensures c.union.ensures.valid.ascending
    c.union.ensures.orders c.joined_to.ensures in (
      λ yes. dead_from pairing c.union.result c.args.order (omega (arith, c.if-orders-order.false, c.orders.ensures.value)) adds
          (λ permitted. both_ways c.permits.result (unnegated _ yes) (c.permits.ensures.1 permitted)),
      λ dead. negated _ (λ (e : c.permits.result ≡ true). not_dead_from pairing c.union.result c.args.order adds (c.permits.ensures.0 e) dead),
    )
