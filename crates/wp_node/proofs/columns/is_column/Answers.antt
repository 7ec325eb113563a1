use Rattle.std.proofs.Common.{◌≡◌, ℕ, ◌<◌, List, length, Contains, ap, arith, rules, subst, ⊎_elim}
use Rattle.std.proofs.lemmas.Bool.{cases_lt}
use Rattle.std.proofs.lemmas.List.Elements.{All-contains}
use Rattle.wp_lengths.proofs.Unions.{all_from_contained}
use Rattle.wp_node.proofs.columns.is_column.Goals as goal

pub loop-order-preserved : goal.loop-order-preserved
loop-order-preserved c = λ order from below has.
    ⊎_elim (λ before. c.loop-order.invariant order from before has)
    (λ same. let e : order ≡ c.loop-order.order = omega (arith, same, below) in
    absurd (cc (c.has.ensures.exact.1 (subst (λ (o : ℕ). Contains c.args.column.now.batch o) e has), c.if-has.false)))
    (cases_lt order c.loop-order.order)

pub returns-then-len-gt0 : goal.returns-then-len-gt0
returns-then-len-gt0 c = (
  λ told. record {
    filled = λ none. omega (arith, ap (λ (xs : List ℕ). length xs) none, c.len.ensures.count, c.if-len-gt0.true);
    known = all_from_contained (λ (o : ℕ). o < c.args.orders) c.args.column.now.batch
        (λ o has. ⊎_elim (λ low. low)
        (λ high. let below = All-contains (λ (k : ℕ). k < 64) c.args.column.now.batch o c.len.ensures.valid.below has in
        absurd (c.loop-order.invariant o high (omega (arith, below, c.loop-order-test.false)) has))
        (cases_lt o c.args.orders));
    short = search (rules, told);
  },
  λ is. search (rules, is.short),
)
