use Rattle.std.proofs.Common.{◌≤◌, ◌-◌, arith}
use Rattle.wp_master.proofs.Choosing.{rising_is_found, risen_is_found}
use Rattle.wp_master.proofs.table.Table.rising_place.Goals as goal

pub returns-clause-some : goal.returns-clause-some
returns-clause-some c =
    let some : 1 ≤ c.width-place-end.result = omega (arith, c.width-place-end.ensures.above) in
    rising_is_found c.args.self.now (c.rows-last.result - 1) c.loop-place.place c.loop-place.best (omega (arith, c.rows-last.ensures, c.requires))
    (omega (arith, c.loop-place.auto.place-end some, c.loop-place-test.false, c.width-place-end.ensures.value)) c.loop-place.invariant

pub returns-clause-none : goal.returns-clause-none
returns-clause-none c =
    let some : 1 ≤ c.width-place-end.result = omega (arith, c.width-place-end.ensures.above) in
    risen_is_found c.args.self.now (c.rows-last.result - 1) c.loop-place.place c.loop-place.best (omega (arith, c.rows-last.ensures, c.requires))
    (omega (arith, c.loop-place.auto.place-end some, c.loop-place-test.false, c.width-place-end.ensures.value)) c.loop-place.invariant
