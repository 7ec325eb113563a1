use Rattle.std.proofs.Common.{◌≡◌, ◌≢◌, ℕ, arith, subst, ⊎_elim}
use Rattle.std.proofs.lemmas.Bool.{both_ways, cases_eq}
use Rattle.wp_pairs.specs.Permitted.{AreUndecided}
use Rattle.wp_cert.proofs.path.is_open_with.Goals as goal

pub loop-second-preserved : goal.loop-second-preserved
loop-second-preserved c = λ k low parts. ⊎_elim
    (λ (e : k ≡ c.loop-second.second). both_ways c.is_open.result c.if-is_open.false
    (c.is_open.ensures.1 (subst (λ (n : ℕ). AreUndecided c.args.pairs.now c.args.first n) e parts)))
    (λ (ne : k ≢ c.loop-second.second). c.loop-second.invariant k (omega (arith, low, ne)) parts)
    (cases_eq k c.loop-second.second)

pub returns-then-is_open-clause-yes : goal.returns-then-is_open-clause-yes
returns-then-is_open-clause-yes c = λ _. (c.loop-second.second, c.is_open.ensures.0 c.if-is_open.true)

pub returns-clause-no : goal.returns-clause-no
returns-clause-no c = λ _ second parts.
    c.loop-second.invariant second (omega (arith, parts.known, c.loop-second-test.false, c.orders-second-end.ensures.value)) parts
