use Rattle.std.proofs.Common.{arith}
use Rattle.wp_lengths.proofs.Unions.{copies_filled}
use Rattle.wp_lengths.proofs.wave.Wave.of.Goals as goal

pub taking-requires-clause-some : goal.taking-requires-clause-some
taking-requires-clause-some c = omega (arith, c.requires.some, c.in_ok-copies.ensures.same.count)

pub taking-requires-clause-most : goal.taking-requires-clause-most
taking-requires-clause-most c = omega (arith, c.requires.most, c.in_ok-copies.ensures.same.count)

pub taking-requires-clause-filled : goal.taking-requires-clause-filled
taking-requires-clause-filled c = copies_filled _ _ c.in_ok-copies.ensures.same c.requires.filled

pub returns-clause-orders : goal.returns-clause-orders
returns-clause-orders c = rw c.taking.ensures.orders c.in_ok-copies.ensures.same
