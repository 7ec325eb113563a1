use Rattle.std.proofs.Common.{◌<◌, arith, below_more, refl}
use Rattle.std.proofs.lemmas.Bool.{both_ways}
use Rattle.std.proofs.lemmas.List.Elements.{All-contains}
use Rattle.wp_pairs.proofs.pairs.Pairs.keeps_all.Goals as goal
use Rattle.wp_pairs.proofs.pairs.Pairs.keeps_all.Goals.{else-has-via-then-has+else-not-keeps, else-has-via-else-has}

pub returns-then-not-keeps : goal.returns-then-not-keeps
returns-then-not-keeps c = record {
  exact = (
    λ no. absurd (cc no),
    λ all. absurd (both_ways c.keeps.result c.if-not-keeps.true (c.keeps.ensures.1 (all c.loop-order.order (c.has.ensures.exact.0 c.if-has.true)))),
  );
}

pub loop-order-preserved : goal.loop-order-preserved
loop-order-preserved c = below_more _ _ c.loop-order.invariant (elim c.else-has.branch [
  | else-has-via-then-has+else-not-keeps w ↦ λ has. w.keeps.ensures.0 w.if-not-keeps.false
  | else-has-via-else-has w ↦ λ has. absurd (both_ways c.has.result w.if-has.false (c.has.ensures.exact.1 has))
])

pub returns : goal.returns
returns c = record {
  exact = (
    λ yes order has. let low = All-contains (λ p. p < 64) c.args.batch order c.requires.below has in
        c.loop-order.invariant order (omega (arith, c.loop-order-test.false)) has,
    λ all. refl,
  );
}
