use Rattle.std.proofs.Common.{◌∙◌, ◌∷◌, [], ap, sym, length, arith, length-append}
use Rattle.wp_model.proofs.NameEq.{joins}
use Rattle.wp_model.proofs.RowLists.{join_new}
use Rattle.wp_tables.proofs.Parts.{parts_known, parts_length, parts_new}
use Rattle.wp_tables.proofs.orders.OrdersSoFar.add_order.Goals as goal

pub invariant_of-self-2 : goal.invariant_of-self-2
invariant_of-self-2 c =
    let names = c.self.inside.names.keys in
    let lines = c.self.inside.lines.items in
    let new = sym (parts_known names lines c.args.line.order c.self.invariant.0) ∙ rw (← c.self.view_is) at c.requires.new in
    let inserted = rw (c.reserve.ensures.keys) at (rw c.unwrap.ensures at c.insert.ensures.keys) in
    let keys = inserted ∙ joins c.args.line.order names ∙ join_new names c.args.line.order new in
    let few = rw (← c.self.view_is, parts_length names lines c.self.invariant.0) at c.requires.room in
    let longer = ap length keys ∙ length-append names (c.args.line.order ∷ []) in
    (omega (arith, ap length c.in_ok-push-2.ensures.items ∙ length-append lines (c.push.new.self ∷ []), longer, c.self.invariant.0), omega (arith, longer, few))

pub returns-clause-made : goal.returns-clause-made
returns-clause-made c =
    let names = c.self.inside.names.keys in
    let lines = c.self.inside.lines.items in
    let new = sym (parts_known names lines c.args.line.order c.self.invariant.0) ∙ rw (← c.self.view_is) at c.requires.new in
    let inserted = rw (c.reserve.ensures.keys) at (rw c.unwrap.ensures at c.insert.ensures.keys) in
    let keys = inserted ∙ joins c.args.line.order names ∙ join_new names c.args.line.order new in
    let only = rw c.new-first.ensures.items at c.in_ok-push.ensures.items in
    rw (← c.self.view_is, keys, c.in_ok-push-2.ensures.items) (sym (parts_new names lines c.args.line c.push.new.self new only c.self.invariant.0))
