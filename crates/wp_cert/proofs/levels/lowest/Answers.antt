use Rattle.std.proofs.Common.{◌∙◌}
use Rattle.wp_cert.proofs.LevelPicks.{none_picked}
use Rattle.wp_cert.proofs.levels.lowest.Goals as goal

pub returns-clause-level : goal.returns-clause-level
returns-clause-level c = record {
  layout = c.new.ensures.layout ∙ c.layout.ensures;
  points = none_picked c.args.wave.now _ _ c.empty.ensures c.new.ensures.empty;
}
