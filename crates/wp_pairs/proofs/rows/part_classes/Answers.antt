use Rattle.wp_pairs.proofs.RowChanges.{parts_classes}
use Rattle.wp_pairs.proofs.rows.part_classes.Goals as goal

pub returns : goal.returns
returns c =
    parts_classes _ _ _ _ _ _ _ _ c.orders_for-left.ensures c.orders_for-right.ensures
    (record { there = c.widen_rows.ensures.there; elsewhere = c.widen_rows.ensures.elsewhere })
    (record { there = c.widen_rows-2.ensures.there; elsewhere = c.widen_rows-2.ensures.elsewhere })
