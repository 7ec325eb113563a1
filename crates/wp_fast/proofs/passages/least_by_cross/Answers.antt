use Rattle.wp_classes.specs.Choices.{TakesCross}
use Rattle.wp_fast.proofs.LeastOfSome.{least_of_crosses}
use Rattle.wp_fast.proofs.passages.least_by_cross.Goals as goal

pub returns : goal.returns
returns c =
    rw (c.lesser-4.ensures, c.lesser-3.ensures, c.lesser-2.ensures, c.lesser.ensures)
    (least_of_crosses (λ cross t. TakesCross c.args.spacing cross c.args.before c.args.after t) _ _ _ _ _ c.length_by_cross-none.ensures
    c.length_by_cross-both.ensures c.length_by_cross-behind.ensures c.length_by_cross-in_front.ensures c.length_by_cross-twice.ensures)
