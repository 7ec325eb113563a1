use Rattle.std.proofs.Common.{refl, subst, sym}
use Rattle.wp_pairs.specs.Permitted.{IsPermitted}
use Rattle.wp_lengths.specs.Visits.{Place as PlaceDue}
use Rattle.wp_lengths.proofs.Visits.{permitted_place}
use Rattle.wp_visit.specs.Places.{Task}
use Rattle.wp_price.specs.Searches.{IsSearched}
use Rattle.wp_price.proofs.Searching.{best_says}
use Rattle.wp_price.proofs.search.SlackSearch.search_from.Goals as goal

pub returns : goal.returns
returns c =
    let permitted = subst (λ (t : Task). IsPermitted t.pairing c.args.place.now.batch) (sym c.self.view_is) c.requires.permitted in
    subst (λ (t : Task). IsSearched t c.args.place.now.batch c.args.place.now.from c.args.best c.visit_from.new.visitor.best) c.self.view_is
    (best_says c.self.inside.visit (PlaceDue c.args.place.now.batch c.args.place.now.from) (record { best = c.args.best }) c.visit_from.new.visitor _
    c.in-Ok.ensures.course refl (permitted_place c.self.inside.visit.pairing c.args.place.now.batch permitted) permitted)
