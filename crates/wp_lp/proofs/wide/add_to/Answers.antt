use Rattle.wp_lp.proofs.Scaled.{covering_more}
use Rattle.wp_lp.proofs.wide.add_to.Goals as goal

pub returns : goal.returns
returns c = covering_more c.args.given.now.wave.now c.args.given.now.pairs.now c.args.batch c.batch_length.result c.args.pool.now c.add.new.self c.requires.pool
    c.requires.permitted c.batch_length.ensures.is c.batch_length.ensures.small c.in_ok-add.ensures.added
