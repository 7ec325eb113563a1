use Rattle.std.proofs.Common.{rules}
use Rattle.std.proofs.lemmas.List.Sorted.{answers_always}
use Rattle.wp_model.proofs.LocationOrder.{cmp_is}
use Rattle.wp_tables.proofs.RowSearch.{searched}
use Rattle.wp_tables.proofs.stock.Stock.row_at.Goals as goal

pub returns-in-Ok : goal.returns-in-Ok
returns-in-Ok c =
    let facts = c.binary_search_by_key.ensures in
    let by_key = facts.position (λ row. row.location) (answers_always _ _ _ (λ f a r g called. search rules)) in
    let found = rw c.in-Ok.is at (searched _ cmp_is c.deref.result.now c.args.location _
    (rw (← c.deref.ensures.value) at c.self.invariant.0.read.rise) facts.bound by_key) in
    rw (← c.self.view_is, ← c.deref.ensures.value) found

pub returns-in-Err : goal.returns-in-Err
returns-in-Err c =
    let facts = c.binary_search_by_key.ensures in
    let by_key = facts.position (λ row. row.location) (answers_always _ _ _ (λ f a r g called. search rules)) in
    let found = rw c.in-Err.is at (searched _ cmp_is c.deref.result.now c.args.location _
    (rw (← c.deref.ensures.value) at c.self.invariant.0.read.rise) facts.bound by_key) in
    rw (← c.self.view_is, ← c.deref.ensures.value) found
