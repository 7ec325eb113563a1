use Rattle.wp_price.proofs.Extensions.{extends_class}
use Rattle.wp_price.proofs.Options.{ok_so, some_so}
use Rattle.wp_price.proofs.Searching.{alone_beaten, found_candidate}
use Rattle.wp_price.proofs.search.SlackSearch.best_with.Goals as goal

pub search_below-requires-clause-known : goal.search_below-requires-clause-known
search_below-requires-clause-known g c = λ _ _ _.
    alone_beaten c.args.self.now c.best_at.result c.in-Some.place.batch c.best_at.ensures.batch c.best_at.ensures.is

pub returns-clause-candidate : goal.returns-clause-candidate
returns-clause-candidate g c = ok_so c.search_below.result _ _ (λ found searched. some_so found _ _ (λ best is. found_candidate c.args.self.now
    c.in-Some.place.batch c.args.order c.best_at.result best c.best_at.ensures.batch c.in-Some.ensures.class c.in-Some.ensures.permitted is)
    searched.found) c.search_below.ensures

pub returns-clause-all : goal.returns-clause-all
returns-clause-all g c = ok_so c.search_below.result _ _ (λ found searched batch candidate. searched.covered batch
    (extends_class c.args.self.now.pairing c.in-Some.place.batch batch c.args.order (λ other has. (c.in-Some.ensures.class other).0 has) candidate.0
    candidate.1)) c.search_below.ensures
