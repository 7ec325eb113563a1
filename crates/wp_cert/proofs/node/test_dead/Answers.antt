use Rattle.std.proofs.Common.{subst}
use Rattle.std.proofs.lemmas.Bool.{both_ways}
use Rattle.wp_pairs.specs.Permitted.{IsDead, Pairing}
use Rattle.wp_cert.specs.Refusals.{not_dead}
use Rattle.wp_cert.specs.Trees.{dead}
use Rattle.wp_cert.proofs.node.test_dead.Goals as goal

pub returns-then-not-is_dead-clause-err : goal.returns-then-not-is_dead-clause-err
returns-then-not-is_dead-clause-err c = λ rest.
    let same = rw c.wave.ensures at c.pairs_of-pairs.ensures in
    not_dead (subst (λ (p : Pairing). IsDead p c.args.order → ⊥) same
    (λ is. both_ways c.is_dead.result c.if-not-is_dead.true (c.is_dead.ensures.1 is)))

pub returns-clause-ok : goal.returns-clause-ok
returns-clause-ok c = λ rest.
    let same = rw c.wave.ensures at c.pairs_of-pairs.ensures in
    dead (subst (λ (p : Pairing). IsDead p c.args.order) same (c.is_dead.ensures.0 c.if-not-is_dead.false))
