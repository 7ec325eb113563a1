use Rattle.wp_node.proofs.Raises.{tight_with}
use Rattle.wp_node.proofs.raise.tighten.Goals as goal

pub returns-in-Some-clause-tight : goal.returns-in-Some-clause-tight
returns-in-Some-clause-tight g c = tight_with c.args.paired.now.wave.now c.args.paired.now.pairs.now c.args.duals.now c.in-Some.batch c.args.order c.args.order
    c.args.tight.now c.requires.listed c.in-Some.ensures
