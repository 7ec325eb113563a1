use Rattle.std.proofs.Common.{◌≤◌}
use Rattle.std.specs.Prelude.{sum}
use Rattle.wp_lp.specs.Knowns.{AreSound, IsCoveringPool}
use Rattle.wp_lp.proofs.wide.widened.Given as goal

abbrev pub invariant-loop-made : goal.invariant-loop-made
invariant-loop-made g l = record {
  pool : IsCoveringPool l.start.given.wave.now l.start.given.pairs.now l.pool;
  sound : AreSound l.start.given.wave.now l.start.given.pairs.now l.best.items;
  no_less : sum l.start.duals.now ≤ sum l.best.items;
}
