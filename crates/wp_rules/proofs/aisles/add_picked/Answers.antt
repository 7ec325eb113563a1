use Rattle.std.proofs.lemmas.Bool.{both_ways}
use Rattle.wp_rules.proofs.Adding.{none_picked}
use Rattle.wp_rules.proofs.aisles.add_picked.Goals as goal

pub returns-else-has_in-clause-value : goal.returns-else-has_in-clause-value
returns-else-has_in-clause-value c =
    none_picked c.args.picks.now.points c.args.aisle c.args.picked.now
    (λ some. both_ways c.has_in.result c.if-has_in.false (c.has_in.ensures.exact.1 some))
