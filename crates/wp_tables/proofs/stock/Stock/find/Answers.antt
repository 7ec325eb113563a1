use Rattle.std.proofs.Common.{◌∙◌, sym}
use Rattle.wp_model.proofs.NameEq.{number_found}
use Rattle.wp_tables.proofs.stock.Stock.find.Goals as goal

pub returns-in-Some-clause-found : goal.returns-in-Some-clause-found
returns-in-Some-clause-found c = sym c.in-Some.is ∙ rw (← c.self.view_is)
    (c.get_index_of.ensures.index ∙ number_found c.args.name.now c.self.inside.articles.keys)

pub returns-in-None-clause-found : goal.returns-in-None-clause-found
returns-in-None-clause-found c = sym c.in-None.is ∙ rw (← c.self.view_is)
    (c.get_index_of.ensures.index ∙ number_found c.args.name.now c.self.inside.articles.keys)
