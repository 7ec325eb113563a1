use Rattle.std.proofs.Common.{ℕ, List, subst, sym}
use Rattle.wp_rules.specs.Rules.{AreAisles}
use Rattle.wp_rules.proofs.RuleTours.{picked_are}
use Rattle.wp_rules.proofs.rule.add_between.Goals as goal

pub add_around_gaps-requires-clause-aisles : goal.add_around_gaps-requires-clause-aisles
add_around_gaps-requires-clause-aisles c =
    subst (λ (aisles : List ℕ). AreAisles c.args.layout.now aisles) (sym c.requires.aisles) (picked_are c.args.layout.now c.args.picks.now.points)
