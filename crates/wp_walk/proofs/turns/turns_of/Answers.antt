use Rattle.std.proofs.Common.{◌≡◌, Some, subst, sym}
use Rattle.wp_graph.specs.AisleLengths.{ways_of}
use Rattle.wp_classes.specs.declared.class.Way.{Way}
use Rattle.wp_classes.specs.Parts.{AreTurns}
use Rattle.wp_classes.specs.Tables.{way_length}
use Rattle.wp_walk.proofs.TurnPlaces.{turns_ends, turns_gap, turns_none}
use Rattle.wp_walk.proofs.turns.turns_of.Goals as goal

pub returns-in_default-clause-turns : goal.returns-in_default-clause-turns
returns-in_default-clause-turns c = turns_none c.args.layout.now c.args.picks.now.points c.args.aisle c.args.way c.requires.applies.0
    c.in_default.ensures.value c.requires.applies.1

pub returns-in-Gap-clause-turns : goal.returns-in-Gap-clause-turns
returns-in-Gap-clause-turns c =
    let applies = subst (λ (w : Way). way_length (ways_of c.args.layout.now c.args.picks.now.points c.args.aisle) w ≡ Some c.requires.applies.0) c.in-Gap.is
    c.requires.applies.1 in
    subst (λ (w : Way). AreTurns c.args.layout.now c.args.picks.now.points c.args.aisle w c.in-Some.reached.near c.in-Some.reached.far) (sym c.in-Gap.is)
    (turns_gap c.args.layout.now c.args.picks.now.points c.args.aisle c.in-Some.reached c.requires.applies.0 c.in-Some.ensures.value applies)

pub returns-in_default-way-clause-turns : goal.returns-in_default-way-clause-turns
returns-in_default-way-clause-turns c = turns_ends c.args.layout.now c.args.picks.now.points c.args.aisle c.args.way c.in-Some.reached c.in-Some.ensures.value
    c.in_default-way.not-Gap
