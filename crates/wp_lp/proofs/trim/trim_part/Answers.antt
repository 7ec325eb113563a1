use Rattle.std.proofs.lemmas.Bool.{both_ways}
use Rattle.wp_lp.proofs.Holds.{has_true}
use Rattle.wp_lp.proofs.Trims.{kept_part, split_part}
use Rattle.wp_lp.proofs.trim.trim_part.Goals as goal

pub returns-then-not-has-clause-trimmed : goal.returns-then-not-has-clause-trimmed
returns-then-not-has-clause-trimmed c = kept_part c.args.part.now c.args.order c.args.left _ _
    (λ is. both_ways c.has.result c.if-not-has.true (c.has.ensures.exact.1 is)) c.in_ok-add_part.ensures

pub returns-then-not-has-clause-each : goal.returns-then-not-has-clause-each
returns-then-not-has-clause-each c = λ old. c.in_ok-add_part.ensures.each c.args.given.now.wave.now c.args.given.now.pairs.now old (λ some. c.requires.part)

pub returns-clause-trimmed : goal.returns-clause-trimmed
returns-clause-trimmed c = let is = c.has.ensures.exact.0 c.if-not-has.false in
    split_part c.args.part.now c.args.order c.args.left c.min-kept.result _ _ _ is c.min-kept.ensures c.in_ok-add_part-2.ensures
    c.in_ok-add_without.ensures.trimmed (has_true c.args.part.now.batch c.args.order is)

pub returns-clause-each : goal.returns-clause-each
returns-clause-each c = λ old. c.in_ok-add_without.ensures.each (c.in_ok-add_part-2.ensures.each c.args.given.now.wave.now c.args.given.now.pairs.now old
    (λ some. record { permitted = c.requires.part.permitted; long = c.requires.part.long }))
