use Rattle.wp_lp.specs.Rounds.{IsRunPool}
use Rattle.wp_lp.proofs.bracket.searched.Given as goal

abbrev pub invariant-loop-made : goal.invariant-loop-made
invariant-loop-made g l = IsRunPool l.start.given.wave.now l.start.given.pairs.now l._made l.pool
