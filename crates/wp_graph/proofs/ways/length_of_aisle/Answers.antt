use Rattle.std.proofs.Common.{sym}
use Rattle.wp_graph.proofs.Distances.{aisle_length_is}
use Rattle.wp_graph.proofs.ways.length_of_aisle.Goals as goal

pub returns-clause-value : goal.returns-clause-value
returns-clause-value c =
    rw (c.from.ensures, c.from-2.ensures, c.from-3.ensures, c.clearance.ensures.value, c.slots.ensures.value, c.pitch.ensures.value)
    (sym (aisle_length_is c.args.layout.now c.clearance.ensures.valid.slots.0))
