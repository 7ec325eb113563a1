use Rattle.std.proofs.Common.{◌∙◌, ap, sym}
use Rattle.wp_model.proofs.NameEq.{not_there, number_found}
use Rattle.wp_tables.specs.Keys.{made_of}
use Rattle.wp_tables.proofs.Parts.{names_back, parts_known}
use Rattle.wp_tables.proofs.orders.OrdersSoFar.add.Goals as goal

pub add_to-requires : goal.add_to-requires
add_to-requires c =
    let names = c.self.inside.names.keys in
    rw (← c.self.view_is, names_back names c.self.inside.lines.items c.self.invariant.0)
    (sym (number_found c.args.line.order names) ∙ sym c.get_index_of.ensures.index ∙ c.in-Some.is)

pub add_order-requires : goal.add_order-requires
add_order-requires c =
    let names = c.self.inside.names.keys in
    let none = sym (number_found c.args.line.order names) ∙ sym c.get_index_of.ensures.index ∙ c.in-None.is in
    let unknown = parts_known names c.self.inside.lines.items c.args.line.order c.self.invariant.0 ∙ not_there c.args.line.order names none in
    let new = rw (ap made_of c.self.view_is) at unknown in
    record { new = new; room = c.requires new }
