use Rattle.std.proofs.Common.{inr, arith}
use Rattle.wp_waves.proofs.KeptWaves.{last_length}
use Rattle.wp_waves.proofs.waves.place_with_room.Goals as goal

pub returns-then-len-most-clause-some : goal.returns-then-len-most-clause-some
returns-then-len-most-clause-some c =
    let last = c.in_ok-place.ensures.some in
    let long = last_length c.args.group.now c.args.waves.now c.in_ok-place.place c.index-waves-place.result last c.index-waves-place.is in
    record { last = last; room = omega (arith, long, c.len.ensures, c.if-len-most.true) }

pub returns-else-len-most-clause-none : goal.returns-else-len-most-clause-none
returns-else-len-most-clause-none c =
    let last = c.in_ok-place.ensures.some in
    let long = last_length c.args.group.now c.args.waves.now c.in_ok-place.place c.index-waves-place.result last c.index-waves-place.is in
    inr (c.in_ok-place.place, last, omega (arith, long, c.len.ensures, c.if-len-most.false))
