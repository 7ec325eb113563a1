use Rattle.std.proofs.Common.{sym, ◌∙◌}
use Rattle.wp_price.proofs.Children.{class_of_least, least_known, no_least, none_through}
use Rattle.wp_price.proofs.Options.{none_so, some_so}
use Rattle.wp_price.proofs.search.SlackSearch.place_through.Goals as goal

pub returns-in_err-least-clause-none : goal.returns-in_err-least-clause-none
returns-in_err-least-clause-none c = absurd (no_least c.args.self.now.pairing c.joined_to.result c.args.order c.joined_to.ensures.orders
    (sym c.least.ensures.first ∙ c.in_err-least.was))

pub child_of-requires-clause-known : goal.child_of-requires-clause-known
child_of-requires-clause-known c = least_known c.args.self.now.pairing c.joined_to.result c.args.order c.in_ok-least.field-0 c.joined_to.ensures.valid
    c.requires c.joined_to.ensures.orders (sym c.least.ensures.first ∙ c.in_ok-least.was)

pub returns-clause-class : goal.returns-clause-class
returns-clause-class c = some_so c.child_of.result _ _ (λ child adds. class_of_least c.args.self.now.pairing c.root-root.result.batch c.joined_to.result
    child.batch c.args.order c.in_ok-least.field-0 c.root-root.ensures.batch c.joined_to.ensures.orders
    (sym c.least.ensures.first ∙ c.in_ok-least.was) adds) c.child_of.ensures.adds

pub returns-clause-none : goal.returns-clause-none
returns-clause-none c =
    let first = sym c.least.ensures.first ∙ c.in_ok-least.was in
    none_so c.child_of.result _ _ (λ none. none_through c.args.self.now.pairing c.root-root.result.batch c.joined_to.result c.args.order
    c.in_ok-least.field-0 c.root-root.ensures.batch c.least.ensures.valid.ascending c.joined_to.ensures.orders first
    (least_known c.args.self.now.pairing c.joined_to.result c.args.order c.in_ok-least.field-0 c.joined_to.ensures.valid c.requires
    c.joined_to.ensures.orders first) none) c.child_of.ensures.none
