use Rattle.std.proofs.Common.{arith}
use Rattle.wp_lp.proofs.Within.{batching_cover}
use Rattle.wp_lp.proofs.cover.known_cover.Goals as goal

pub returns : goal.returns
returns c =
    batching_cover c.args.start.now.given.wave.now c.args.start.now.given.pairs.now c.args.start.now.batches.now c.args.start.now.cost c.in_ok-parts.parts.items
    c.in_ok-parts.ensures.exact c.in_ok-parts.ensures.each c.in_ok-parts.ensures.cost c.requires.known.priced (c.in_ok-parts.ensures.small (omega arith))
