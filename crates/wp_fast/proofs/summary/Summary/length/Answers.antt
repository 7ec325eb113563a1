use Rattle.wp_fast.proofs.ToTheEnd.{least_to_the_end}
use Rattle.wp_fast.proofs.summary.Summary.length.Goals as goal

pub returns : goal.returns
returns c =
    rw (
      c.lesser-3.ensures,
      c.lesser-2.ensures,
      c.lesser.ensures,
      c.length-behind.ensures,
      c.length-in_front.ensures,
      c.length-both.ensures,
      c.length-apart.ensures,
    )
    (least_to_the_end c.args.self.now)
