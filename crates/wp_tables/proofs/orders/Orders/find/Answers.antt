use Rattle.std.proofs.Common.{◌∙◌, sym, arith}
use Rattle.wp_model.proofs.NameEq.{found_there, number_found}
use Rattle.wp_tables.proofs.Parts.{names_back}
use Rattle.wp_tables.proofs.orders.Orders.find.Goals as goal

pub overflow_cast-result : goal.overflow_cast-result
overflow_cast-result c =
    let found = sym (number_found c.args.name.now c.self.inside.names.keys) ∙ sym c.get_index_of.ensures.index ∙ c.in-Some.is in
    let there = found_there c.args.name.now c.self.inside.names.keys c.in-Some.order found in
    omega (arith, there.1, c.self.invariant.1)

pub returns-in-Some : goal.returns-in-Some
returns-in-Some c =
    rw (← c.self.view_is, names_back c.self.inside.names.keys c.self.inside.lines.items c.self.invariant.0)
    (sym c.in-Some.is ∙ c.get_index_of.ensures.index ∙ number_found c.args.name.now c.self.inside.names.keys)

pub returns-in-None : goal.returns-in-None
returns-in-None c =
    rw (← c.self.view_is, names_back c.self.inside.names.keys c.self.inside.lines.items c.self.invariant.0)
    (sym c.in-None.is ∙ c.get_index_of.ensures.index ∙ number_found c.args.name.now c.self.inside.names.keys)
