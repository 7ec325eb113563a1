use Rattle.std.proofs.Common.{◌≡◌, ◌+◌, ◌∙◌, ℕ, max, drop, nat_cmp, subst, sym, arith}
use Rattle.std.proofs.lemmas.Bool.Decides.{nat_tests}
use Rattle.std.specs.Ordering.{ord_max}
use Rattle.wp_crew.specs.Crews.{greatest}
use Rattle.wp_crew.proofs.Greatest.{greatest_all, greatest_more}
use Rattle.wp_crew.proofs.loads.greatest.Goals as goal

greater_of : (a b : ℕ) → ord_max nat_cmp a b ≡ max a b
greater_of a b = grind (arith, nat_tests)

pub loop-number-preserved : goal.loop-number-preserved
loop-number-preserved c =
    subst (λ k. max k (greatest (drop (c.loop-number.number-index + 1) c.args.numbers.now)) ≡ greatest c.args.numbers.now)
    (sym (c.max-most.ensures ∙ greater_of _ _))
    (greatest_more c.args.numbers.now c.loop-number.number-index c.loop-number.most c.loop-number-test.true c.loop-number.invariant)

pub returns : goal.returns
returns c = greatest_all c.args.numbers.now c.loop-number.number-index c.loop-number.most (omega arith) c.loop-number.invariant
