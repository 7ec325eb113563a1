use Rattle.wp_planner.proofs.OrderPicks.{picks_filled, wave_with}
use Rattle.wp_planner.proofs.waves.wave_of.Goals as goal

pub taking_with_cart-requires-clause-filled : goal.taking_with_cart-requires-clause-filled
taking_with_cart-requires-clause-filled c =
    let listed = c.wave-wave.ensures.released.listed in
    let are = rw (c.as_rows-rows.ensures.rows, c.stock.ensures.stock, c.opening.ensures, c.as_slice-holds.ensures, c.len.ensures, c.wave-wave.ensures.wave)
    at c.in_ok-picks.ensures in
    picks_filled _ _ _ _ _ listed.within listed.filled are

pub taking-requires-clause-filled : goal.taking-requires-clause-filled
taking-requires-clause-filled c =
    let listed = c.wave-wave.ensures.released.listed in
    let are = rw (c.as_rows-rows.ensures.rows, c.stock.ensures.stock, c.opening.ensures, c.as_slice-holds.ensures, c.len.ensures, c.wave-wave.ensures.wave)
    at c.in_ok-picks.ensures in
    picks_filled _ _ _ _ _ listed.within listed.filled are

pub returns-in-Some : goal.returns-in-Some
returns-in-Some c =
    let are = rw (c.as_rows-rows.ensures.rows, c.stock.ensures.stock, c.opening.ensures, c.as_slice-holds.ensures, c.len.ensures, c.wave-wave.ensures.wave)
    at c.in_ok-picks.ensures in
    wave_with _ _ _ _ c.taking_with_cart.result c.aisles-aisles.ensures.valid c.requires c.taking_with_cart.ensures.layout are c.taking_with_cart.ensures.orders
    (rw c.taking_with_cart.ensures.cart (rw c.in-Some.is at c.cart.ensures))

pub returns-in-None : goal.returns-in-None
returns-in-None c =
    let are = rw (c.as_rows-rows.ensures.rows, c.stock.ensures.stock, c.opening.ensures, c.as_slice-holds.ensures, c.len.ensures, c.wave-wave.ensures.wave)
    at c.in_ok-picks.ensures in
    wave_with _ _ _ _ c.taking.result c.aisles-aisles.ensures.valid c.requires c.taking.ensures.layout are c.taking.ensures.orders
    (rw c.taking.ensures.cart (rw c.in-None.is at c.cart.ensures))
