use Rattle.std.proofs.Common.{◌∙◌, sym}
use Rattle.wp_model.proofs.NameEq.{number_found}
use Rattle.wp_tables.proofs.Places.{places_found, places_new}
use Rattle.wp_tables.proofs.stock.StockSoFar.places_of.Goals as goal

pub returns-in-Some : goal.returns-in-Some
returns-in-Some c =
    let found = sym (number_found c.args.article.now c.self.inside.articles.keys) ∙ sym c.get_index_of.ensures.index ∙ c.in-Some.is in
    rw (← c.self.view_is) (places_found _ c.self.inside.places.items c.args.article.now c.in-Some.article c.index.result.now c.self.invariant.1.counted found
    c.index.ensures)

pub returns-in-None : goal.returns-in-None
returns-in-None c =
    let none = sym (number_found c.args.article.now c.self.inside.articles.keys) ∙ sym c.get_index_of.ensures.index ∙ c.in-None.is in
    rw (← c.self.view_is) (places_new _ c.self.inside.places.items c.args.article.now c.self.invariant.1.counted none)
