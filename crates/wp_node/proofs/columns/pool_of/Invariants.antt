use Rattle.std.proofs.Common.{◌≡◌, take}
use Rattle.wp_node.proofs.columns.pool_of.Given as goal

abbrev pub invariant-loop-column : goal.invariant-loop-column
invariant-loop-column l = record { orders : l.pool.orders ≡ l.orders; columns : l.pool.columns ≡ take l.column-index l.columns }
