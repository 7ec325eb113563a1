use Rattle.std.proofs.Common.{◌∙◌, sym, ap, length, arith}
use Rattle.wp_model.proofs.NameEq.{found_there, not_there, number_found}
use Rattle.wp_tables.proofs.Parts.{item_at, parts_known, parts_lines, parts_no_lines}
use Rattle.wp_tables.proofs.orders.OrdersSoFar.lines_of.Goals as goal

pub index-requires : goal.index-requires
index-requires c =
    let found = sym (number_found c.args.name.now c.self.inside.names.keys) ∙ sym c.get_index_of.ensures.index ∙ c.in-Some.is in
    let there = found_there c.args.name.now c.self.inside.names.keys c.in-Some.order found in
    omega (arith, there.1, c.self.invariant.0)

pub returns-in-Some-clause-known : goal.returns-in-Some-clause-known
returns-in-Some-clause-known c =
    let names = c.self.inside.names.keys in
    let lines = c.self.inside.lines.items in
    let name = c.args.name.now in
    let found = sym (number_found name names) ∙ sym c.get_index_of.ensures.index ∙ c.in-Some.is in
    let there = found_there name names c.in-Some.order found in
    let at = item_at lines c.in-Some.order c.index.result.now (omega (arith, there.1, c.self.invariant.0)) c.index.ensures in
    let same = ap length (sym (parts_lines names lines name c.index.result.now (rw (← there.0) at at) c.self.invariant.0)) in
    rw (← c.self.view_is) (parts_known names lines name c.self.invariant.0 ∙ there.2, omega (arith, c.len.ensures, same))

pub returns-in-None-clause-new : goal.returns-in-None-clause-new
returns-in-None-clause-new c =
    let names = c.self.inside.names.keys in
    let none = sym (number_found c.args.name.now names) ∙ sym c.get_index_of.ensures.index ∙ c.in-None.is in
    rw (← c.self.view_is) (parts_known names c.self.inside.lines.items c.args.name.now c.self.invariant.0 ∙ not_there c.args.name.now names none)

pub returns-in-None-clause-none : goal.returns-in-None-clause-none
returns-in-None-clause-none c =
    let names = c.self.inside.names.keys in
    let none = sym (number_found c.args.name.now names) ∙ sym c.get_index_of.ensures.index ∙ c.in-None.is in
    rw (← c.self.view_is) (parts_no_lines names c.self.inside.lines.items c.args.name.now (not_there c.args.name.now names none))
