use Rattle.std.proofs.Common.{below_more}
use Rattle.wp_batch_tests.proofs.classes.are_classes_tight.Goals as goal

pub loop-order-preserved : goal.loop-order-preserved
loop-order-preserved c = below_more _ _ c.loop-order.invariant (c.is_class_tight.ensures c.if-not-is_class_tight.false)
