use Rattle.wp_classes.specs.Choices.{TakesWay}
use Rattle.wp_fast.proofs.LeastOfSome.{least_of_ways}
use Rattle.wp_fast.proofs.passages.least_by_way.Goals as goal

pub returns : goal.returns
returns c =
    rw (c.lesser-5.ensures, c.lesser-4.ensures, c.lesser-3.ensures, c.lesser-2.ensures, c.lesser.ensures)
    (least_of_ways (λ way t. TakesWay c.args.ways.now way c.args.before c.args.after t) _ _ _ _ _ _ c.length_by_way-pass.ensures c.length_by_way-back.ensures
    c.length_by_way-front.ensures c.length_by_way-gap.ensures c.length_by_way-double.ensures c.length_by_way-skip.ensures)
