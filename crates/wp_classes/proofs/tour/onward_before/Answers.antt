use Rattle.std.proofs.Common.{◌∙◌, arith}
use Rattle.wp_classes.proofs.Small.{lengths_within, onward_one_left, through_within, ways_within}
use Rattle.wp_classes.proofs.tour.onward_before.Goals as goal

pub before_way-through-requires-clause-ways : goal.before_way-through-requires-clause-ways
before_way-through-requires-clause-ways c = λ way. ways_within _ _ _ _ c.spacing_after.ensures.valid c.aisle_ways.ensures.value way

pub before_way-through-requires-clause-after : goal.before_way-through-requires-clause-after
before_way-through-requires-clause-after c = λ class.
    lengths_within _ _ _ _ _ c.spacing_after.ensures.valid (omega (arith, c.spacing_after.ensures.valid.aisles)) c.requires.after class

pub before_cross-requires-clause-after : goal.before_cross-requires-clause-after
before_cross-requires-clause-after c = λ class.
    through_within _ _ _ _ _ _ _ c.spacing_after.ensures.valid (omega (arith, c.spacing_after.ensures.valid.aisles)) c.requires.after c.aisle_ways.ensures.value
    c.before_way-through.ensures class

pub returns : goal.returns
returns c =
    onward_one_left _ _ _ _ _ _ _ _ c.requires.first c.requires.last c.requires.after c.aisle_ways.ensures.value
    (c.from-spacing.ensures ∙ c.spacing_after.ensures.value) c.before_way-through.ensures c.before_cross.ensures
