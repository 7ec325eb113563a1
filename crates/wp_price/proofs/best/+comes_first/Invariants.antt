use Rattle.std.proofs.Common.{length}
use Rattle.wp_price.proofs.best.+comes_first.Given as goal

abbrev pub decreases-comes_first : goal.decreases-comes_first
decreases-comes_first l = length l.left
