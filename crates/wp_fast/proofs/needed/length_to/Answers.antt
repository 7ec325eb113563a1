use Rattle.std.proofs.Common.{None, Some}
use Rattle.wp_fast.proofs.Carrying.{behind_last, first_aisle, ways_needed}
use Rattle.wp_fast.proofs.Warehouse.{next_needed}
use Rattle.wp_fast.proofs.needed.length_to.Goals as goal

pub only_length-requires : goal.only_length-requires
only_length-requires c = ways_needed _ _ _ _ c.ways_through.ensures.valid c.ways_through.ensures.value c.requires.needed

pub returns-in-None-clause-least : goal.returns-in-None-clause-least
returns-in-None-clause-least c =
    let none = next_needed _ _ _ _ None c.args.aisles.now.of_layout c.in-None.ensures.slots c.in-None.ensures.last in
    first_aisle _ _ _ _ _ _ c.requires.aisle.0 c.requires.aisle.1 none c.requires.needed c.ways_through.ensures.value
    (behind_last _ _ _ c.requires.aisle.1 c.requires.needed c.requires.behind) c.only_length.ensures

pub after_next_to_last-requires-clause-neighbours : goal.after_next_to_last-requires-clause-neighbours
after_next_to_last-requires-clause-neighbours c =
    let next = next_needed _ _ _ _ (Some c.in-Some.next) c.args.aisles.now.of_layout c.in-Some.ensures.slots c.in-Some.ensures.last in
    record { order = next.1; here = next.2; there = c.requires.needed; between = next.3 }

pub length_from-requires-clause-needed : goal.length_from-requires-clause-needed
length_from-requires-clause-needed c =
    (next_needed _ _ _ _ (Some c.in-Some.next) c.args.aisles.now.of_layout c.in-Some.ensures.slots c.in-Some.ensures.last).2
