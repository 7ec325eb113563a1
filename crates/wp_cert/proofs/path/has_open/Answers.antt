use Rattle.std.proofs.Common.{◌≡◌, ◌≢◌, ℕ, arith, subst, ⊎_elim}
use Rattle.std.proofs.lemmas.Bool.{cases_eq}
use Rattle.wp_pairs.specs.Permitted.{AreUndecided}
use Rattle.wp_cert.proofs.path.has_open.Goals as goal

pub loop-first-preserved : goal.loop-first-preserved
loop-first-preserved c = λ k second low parts. ⊎_elim
    (λ (e : k ≡ c.loop-first.first). c.is_open_with.ensures.no c.if-is_open_with.false second
    (subst (λ (n : ℕ). AreUndecided c.args.pairs.now n second) e parts))
    (λ (ne : k ≢ c.loop-first.first). c.loop-first.invariant k second (omega (arith, low, ne)) parts)
    (cases_eq k c.loop-first.first)

pub returns-then-is_open_with-clause-yes : goal.returns-then-is_open_with-clause-yes
returns-then-is_open_with-clause-yes c = λ _ decided.
    let at = c.is_open_with.ensures.yes c.if-is_open_with.true in decided c.loop-first.first at.0 at.1

pub returns-clause-no : goal.returns-clause-no
returns-clause-no c = λ _ first second parts.
    c.loop-first.invariant first second (omega (arith, parts.order, parts.known, c.loop-first-test.false, c.orders-first-end.ensures.value)) parts
