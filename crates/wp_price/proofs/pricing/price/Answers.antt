use Rattle.std.proofs.Common.{subst, to_z-of_z, SFits, w64, rules, ℕ}
use Rattle.std.specs.Prelude.{Option}
use Rattle.wp_price.specs.Slacks.{IsLeastSlack}
use Rattle.wp_price.proofs.LeastSlacks.{feasible_of_least, least_of_best}
use Rattle.wp_price.proofs.pricing.price.Goals as goal

pub marks_of-requires-after_bounds : goal.marks_of-requires-after_bounds
marks_of-requires-after_bounds g c = λ _ _ none low.
    let fits : SFits w64 c.slack_of-slack.result = search rules in
    let least = least_of_best c.args.search.now c.args.through c.in-Some.best c.slack_of-slack.result c.slack_of-slack.ensures.small
    (rw c.in-Some.is at c.in_ok-found.ensures.candidate) (rw c.in-Some.is at c.in_ok-found.ensures.is)
    (rw c.in-Some.is at c.in_ok-found.ensures.all) c.slack_of-slack.ensures.is in
    feasible_of_least c.args.search.now c.in-Some.best.batch c.slack_of-slack.result
    (subst (λ (t : Option ℕ). IsLeastSlack c.args.search.now.wave c.args.search.now.pairing c.args.search.now.duals t c.in-Some.best.batch
    c.slack_of-slack.result) none least)
    (rw (to_z-of_z fits) at low)

pub returns-clause-least : goal.returns-clause-least
returns-clause-least g c =
    let fits : SFits w64 c.slack_of-slack.result = search rules in
    rw (to_z-of_z fits)
    (least_of_best c.args.search.now c.args.through c.in-Some.best c.slack_of-slack.result c.slack_of-slack.ensures.small
    (rw c.in-Some.is at c.in_ok-found.ensures.candidate) (rw c.in-Some.is at c.in_ok-found.ensures.is)
    (rw c.in-Some.is at c.in_ok-found.ensures.all) c.slack_of-slack.ensures.is)
