use Rattle.std.proofs.Common.{None, Some, arith}
use Rattle.wp_fast.proofs.Carrying.{first_aisle, ways_needed}
use Rattle.wp_fast.proofs.Warehouse.{next_needed}
use Rattle.wp_fast.proofs.needed.length_from.Goals as goal

pub first_length-requires-clause-ways : goal.first_length-requires-clause-ways
first_length-requires-clause-ways c = ways_needed _ _ _ _ c.ways_through.ensures.valid c.ways_through.ensures.value c.loop-next.invariant.needed

pub returns-clause-least : goal.returns-clause-least
returns-clause-least c =
    let none = next_needed _ _ _ _ None c.args.aisles.now.of_layout c.in_default.ensures.slots c.in_default.ensures.last in
    first_aisle _ _ _ _ _ _ c.loop-next.invariant.aisle.0 c.loop-next.invariant.aisle.1 none c.loop-next.invariant.needed c.ways_through.ensures.value
    c.loop-next.invariant.behind c.first_length.ensures

pub after_next-onward-requires-clause-neighbours : goal.after_next-onward-requires-clause-neighbours
after_next-onward-requires-clause-neighbours c =
    let next = next_needed _ _ _ _ (Some c.in-Some.next) c.args.aisles.now.of_layout c.in-Some.ensures.slots c.in-Some.ensures.last in
    record { order = next.1; here = next.2; there = c.loop-next.invariant.needed; between = next.3 }

pub loop-next-preserved : goal.loop-next-preserved
loop-next-preserved c =
    let next = next_needed _ _ _ _ (Some c.in-Some.next) c.args.aisles.now.of_layout c.in-Some.ensures.slots c.in-Some.ensures.last in
    record {
      aisle = (next.0, omega (arith, next.1, c.loop-next.invariant.aisle));
      needed = next.2;
      short = c.after_next-onward.ensures.short;
      behind = c.after_next-onward.ensures.behind;
    }
