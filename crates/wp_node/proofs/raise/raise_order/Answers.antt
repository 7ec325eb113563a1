use Rattle.std.proofs.Common.{ℕ, ◌<◌, arith, length, length-set, ◌∙◌}
use Rattle.wp_node.proofs.DualSums.{raised_no_lower}
use Rattle.wp_node.proofs.Raises.{found_some, raised_feasible, raised_small, raised_tight, some_candidate}
use Rattle.wp_node.proofs.raise.raise_order.Goals as goal

pub unwrap-priced-requires : goal.unwrap-priced-requires
unwrap-priced-requires g c =
    found_some _ c.in_ok-least_slack_by.field-0 c.in_ok-least_slack_by.ensures.none
    (some_candidate c.args.paired.now.pairs.now c.args.order c.requires.start.held (omega (arith, c.requires.known, c.args.paired.now.as_many)))

pub room_of-room-requires-clause-within : goal.room_of-room-requires-clause-within
room_of-room-requires-clause-within g c =
    let least = rw c.unwrap-priced.ensures at c.in_ok-least_slack_by.ensures.least in λ total long.
    c.requires.start.above.feasible c.unwrap-priced.result.batch total least.candidate.0 long

pub raise-requires-clause-room : goal.raise-requires-clause-room
raise-requires-clause-room g c =
    let least = rw c.unwrap-priced.ensures at c.in_ok-least_slack_by.ensures.least in
    raised_small c.args.paired.now.wave.now c.args.duals.now c.unwrap-priced.result.batch c.args.order c.room_of-room.result least.candidate.1
    c.room_of-room.ensures

pub returns-clause-start : goal.returns-clause-start
returns-clause-start g c =
    let least = rw c.unwrap-priced.ensures at c.in_ok-least_slack_by.ensures.least in
    let known : c.args.order < length c.args.duals.now = omega (arith, c.requires.known, c.requires.start.above.count) in
    rw c.raise.ensures (record {
      held = c.requires.start.held;
      above = record {
        count = length-set {A = ℕ} _ _ _ ∙ c.requires.start.above.count;
        feasible = raised_feasible c.args.paired.now.wave.now c.args.paired.now.pairs.now c.args.duals.now c.unwrap-priced.result.batch c.args.order
            c.room_of-room.result c.unwrap-priced.result.slack c.requires.start.above.feasible known least c.room_of-room.ensures;
      };
    })

pub returns-clause-no_lower : goal.returns-clause-no_lower
returns-clause-no_lower g c =
    let known : c.args.order < length c.args.duals.now = omega (arith, c.requires.known, c.requires.start.above.count) in
    rw c.raise.ensures (raised_no_lower c.args.duals.now c.args.order c.room_of-room.result known)

pub returns-clause-tight : goal.returns-clause-tight
returns-clause-tight g c =
    let least = rw c.unwrap-priced.ensures at c.in_ok-least_slack_by.ensures.least in
    let known : c.args.order < length c.args.duals.now = omega (arith, c.requires.known, c.requires.start.above.count) in
    rw c.raise.ensures (raised_tight c.args.paired.now.wave.now c.args.paired.now.pairs.now c.args.duals.now c.unwrap-priced.result.batch c.args.order
    c.room_of-room.result known least.candidate.0 least.candidate.1 c.room_of-room.ensures)
