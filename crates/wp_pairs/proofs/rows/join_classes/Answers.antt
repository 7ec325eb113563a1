use Rattle.wp_pairs.proofs.RowChanges.{joins_classes, union_of}
use Rattle.wp_pairs.proofs.rows.join_classes.Goals as goal

pub returns : goal.returns
returns c =
    joins_classes _ _ _ _ _ _ _ _ _
    (union_of _ _ _ _ _ _ c.orders_for.ensures c.orders_for-2.ensures c.union-class.ensures.orders)
    (union_of _ _ _ _ _ _ c.orders_for-3.ensures c.orders_for-4.ensures c.union-away.ensures.orders)
    (record { there = c.set_rows.ensures.there; elsewhere = c.set_rows.ensures.elsewhere })
    (record { there = c.set_rows-2.ensures.there; elsewhere = c.set_rows-2.ensures.elsewhere })
    (record { there = c.widen_rows.ensures.there; elsewhere = c.widen_rows.ensures.elsewhere })
