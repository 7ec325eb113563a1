use Rattle.std.proofs.lemmas.Bool.{both_ways}
use Rattle.std.proofs.Common.{sym, ◌∙◌}
use Rattle.wp_pairs.specs.Permitted.{itself}
use Rattle.wp_visit.proofs.Later.{one_alone, reaches_still}
use Rattle.wp_visit.proofs.further.reaches_before.Goals as goal

pub returns-then-not-is_later : goal.returns-then-not-is_later
returns-then-not-is_later c =
    reaches_still c.args.given.now.paired.pairs.now c.args.given.now.duals.now c.args.order c.args.after.now c.requires.known
    (λ item. both_ways c.is_later.result c.if-not-is_later.true (c.is_later.ensures.1 (record { known = item.known; later = item.least })))
    c.requires.after

pub reaches_with-requires-clause-alone : goal.reaches_with-requires-clause-alone
reaches_with-requires-clause-alone c = λ other joined.
    one_alone c.joined_to.result c.args.order other (sym c.len.ensures.count ∙ c.if-len-eq1.true) ((c.joined_to.ensures c.args.order).1 itself)
    ((c.joined_to.ensures other).1 joined)
