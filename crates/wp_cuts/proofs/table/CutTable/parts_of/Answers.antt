use Rattle.std.proofs.Common.{◌<◌, ℕ, List, [], arith, subst, sym, ◌∙◌}
use Rattle.std.proofs.lemmas.Bool.{both_ways}
use Rattle.std.proofs.lemmas.List.{get_or_default}
use Rattle.std.proofs.lemmas.List.Elements.{All-contains}
use Rattle.wp_cuts.specs.Cuts.{CutParts}
use Rattle.wp_cuts.specs.Tables.{IsRow, IsTable}
use Rattle.wp_cuts.proofs.TableRows.{parts_none, parts_with, parts_without, parts_whole}
use Rattle.wp_cuts.proofs.table.CutTable.parts_of.Goals as goal
use Rattle.wp_cuts.proofs.table.CutTable.parts_of.Goals.{then-has, else-has}

pub loop-order-init : goal.loop-order-init
loop-order-init c = parts_none c.args.self.now c.args.batch c.zeros-sums.result c.zeros-sums.ensures

pub loop-order-preserved : goal.loop-order-preserved
loop-order-preserved c =
    let table = subst (λ (cuts : List CutParts). IsTable cuts c.self.inside.rows.items) c.self.view_is c.self.invariant.0 in
    elim c.if-has.branch [
      | then-has w ↦ rw w.sums-is
          (parts_with c.args.self.now c.args.batch c.loop-order.sums w.index.result.now w.add_row.new.sums c.loop-order.order c.loop-order.invariant table.few
          c.has.ensures.valid.ascending (c.has.ensures.exact.0 w.if-has.true)
          (subst (λ (row : List ℕ). IsRow c.args.self.now c.loop-order.order row)
          (get_or_default c.self.inside.rows.items c.loop-order.order [] w.index.result.now (omega (arith, c.loop-order-test.true, table.whole))
          ∙ sym w.index.ensures) (table.each c.loop-order.order c.loop-order-test.true)) w.add_row.ensures)
      | else-has w ↦ rw w.sums-is
          (parts_without c.args.self.now c.args.batch c.loop-order.sums c.loop-order.order c.loop-order.invariant
          (λ has. both_ways c.has.result w.if-has.false (c.has.ensures.exact.1 has)))
    ]

pub returns : goal.returns
returns c = parts_whole c.args.self.now c.args.batch c.loop-order.sums c.loop-order.order c.loop-order.invariant
    (omega (arith, c.loop-order-test.false, c.loop-order.auto.order-end))
    (λ order has. All-contains (λ (o : ℕ). o < 64) c.args.batch order c.len-few.ensures.valid.below has)
