use Rattle.wp_node.proofs.visit.FindsSoFarVisitor.enter.Goals as goal
use Rattle.wp_node.proofs.visit.FindsSoFarVisitor.enter.Goals.{then-find-self, else-find-self}

pub returns-clause-fits : goal.returns-clause-fits
returns-clause-fits c = elim c.if-find-self.branch [
  | then-find-self w ↦ rw w.self-is (record {
    as_many = c.requires.fits.as_many;
    each = w.keep.ensures c.args.visit.now.wave c.requires.fits.each c.find_at-find.ensures;
  })
  | else-find-self w ↦ rw w.self-is c.requires.fits
]
