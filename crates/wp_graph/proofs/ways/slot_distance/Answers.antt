use Rattle.std.proofs.Common.{sym}
use Rattle.wp_graph.proofs.Distances.{distance_is}
use Rattle.wp_graph.proofs.ways.slot_distance.Goals as goal

pub returns-clause-value : goal.returns-clause-value
returns-clause-value c =
    rw (c.from.ensures, c.from-2.ensures, c.from-3.ensures, c.clearance.ensures.value, c.pitch.ensures.value)
    (sym (distance_is c.args.layout.now c.args.slot c.requires))
