use Rattle.std.proofs.Common.{◌+◌, ◌<◌, ◌^◌, ap, arith, length, subst, sym, List, ℕ}
use Rattle.wp_dispatch.proofs.FreeUnits.{row_added, row_fits, written_back}
use Rattle.wp_dispatch.proofs.RowArticles.{row_article}
use Rattle.wp_dispatch.proofs.free_stock.free_stock_of.Goals as goal
use Rattle.wp_dispatch.specs.FreeUnits.{HasAdded, units_with}
use Rattle.wp_model.specs.History.{state_after}

pub add_row-requires-clause-within : goal.add_row-requires-clause-within
add_row-requires-clause-within c =
    let within = row_article c.args.machine.now c.loop-row.row c.row.result c.count-history.ensures.read c.row.ensures in
    omega (arith, within, c.requires, c.loop-row.invariant.long, ap (λ (units : List ℕ). length units) c.deref_mut.ensures.value)

pub add_row-requires-clause-room : goal.add_row-requires-clause-room
add_row-requires-clause-room c =
    subst (λ (units : List ℕ). units_with c.row.result units < 2 ^ 64) (sym c.deref_mut.ensures.value)
    (row_fits c.args.machine.now c.loop-row.row c.args.articles c.row.result c.loop-row.units.items c.count-history.ensures.read
    c.count-history.ensures.sound c.row.ensures c.loop-row.invariant)

pub loop-row-preserved : goal.loop-row-preserved
loop-row-preserved c =
    let rows = (state_after c.args.machine.now).rows in
    let new = c.add_row.new.units in
    let items = c.loop-row.units.items in
    let within = row_article c.args.machine.now c.loop-row.row c.row.result c.count-history.ensures.read c.row.ensures in
    let added : HasAdded c.row.result items new =
    subst (λ (units : List ℕ). HasAdded c.row.result units new) c.deref_mut.ensures.value c.add_row.ensures in
    written_back rows (c.loop-row.row + 1) c.args.articles c.loop-row.units.len new items (omega arith) c.loop-row.invariant.long
    (row_added rows c.loop-row.row c.args.articles c.row.result items new c.row.ensures (omega (arith, within, c.requires)) c.loop-row.invariant added)
