use Rattle.std.proofs.Common.{ℕ, subst}
use Rattle.wp_visit.proofs.Children.{reached_place}
use Rattle.wp_price.specs.Searches.{IsSearched}
use Rattle.wp_price.proofs.Searching.{child_item, pass_item}
use Rattle.wp_price.proofs.search.SlackSearch.search_item.Goals as goal

pub returns-in-Some : goal.returns-in-Some
returns-in-Some c = child_item c.args.self.now c.args.place.now.batch c.in-Some.child.batch c.args.order c.args.best c.search_from.result
    c.in-Some.ensures.adds
    (subst (λ (n : ℕ). IsSearched c.args.self.now c.in-Some.child.batch n c.args.best c.search_from.result) c.in-Some.ensures.from c.search_from.ensures)

pub returns-in-None : goal.returns-in-None
returns-in-None c = pass_item c.args.self.now c.args.place.now.batch c.args.order c.args.best
    (reached_place c.args.self.now.pairing c.args.place.now.batch c.requires.place.reached) c.in-None.ensures.none
