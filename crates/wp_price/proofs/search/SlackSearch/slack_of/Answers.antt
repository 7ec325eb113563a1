use Rattle.std.proofs.Common.{arith, subst, to_z-of_z, SFits, w64, rules}
use Rattle.std.proofs.lemmas.Int.{ints}
use Rattle.wp_price.specs.Searches.{HasDuals}
use Rattle.wp_price.proofs.Children.{permitted_few, permitted_small, slack_is}
use Rattle.wp_price.proofs.search.SlackSearch.slack_of.Goals as goal

pub slack_between-requires-clause-sum : goal.slack_between-requires-clause-sum
slack_between-requires-clause-sum c =
    let has = subst HasDuals c.self.view_is c.self.invariant.has in
    let few = permitted_few c.args.self.now c.args.batch has c.requires in omega (arith, c.sum_of.ensures.small, few)

pub returns-clause-is : goal.returns-clause-is
returns-clause-is c =
    let fits : SFits w64 c.slack_between.result = search rules in
    rw (to_z-of_z fits)
    (slack_is c.args.self.now c.self.inside.visit c.self.inside.wave.now c.self.inside.duals.now c.args.batch c.slack_between.result
    c.batch_length-length.result c.self.view_is c.self.invariant c.batch_length-length.ensures.is
    (omega (arith, ints, c.slack_between.ensures, c.sum_of.ensures.is)))

pub returns-clause-small : goal.returns-clause-small
returns-clause-small c = λ other permitted. permitted_small c.args.self.now other (subst HasDuals c.self.view_is c.self.invariant.has) permitted
