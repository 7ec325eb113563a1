use Rattle.std.proofs.Common.{arith}
use Rattle.wp_lengths.proofs.Unions.{copies_filled}
use Rattle.wp_lengths.proofs.wave.Wave.with_cart.Goals as goal

pub taking_with_cart-requires-clause-loads : goal.taking_with_cart-requires-clause-loads
taking_with_cart-requires-clause-loads c = omega (arith, c.requires.loads, c.in_ok-copies.ensures.same.count)

pub taking_with_cart-requires-clause-filled : goal.taking_with_cart-requires-clause-filled
taking_with_cart-requires-clause-filled c = copies_filled _ _ c.in_ok-copies.ensures.same c.requires.filled

pub returns-clause-orders : goal.returns-clause-orders
returns-clause-orders c = rw c.taking_with_cart.ensures.orders c.in_ok-copies.ensures.same
