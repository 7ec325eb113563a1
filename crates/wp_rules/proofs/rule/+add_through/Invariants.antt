use Rattle.std.proofs.Common.{length}
use Rattle.wp_rules.proofs.rule.+add_through.Given as goal

abbrev pub decreases-add_through : goal.decreases-add_through
decreases-add_through l = length l.aisles.now
