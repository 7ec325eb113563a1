use Rattle.std.proofs.Common.{arith}
use Rattle.wp_lengths.specs.Waves.{WavePicks}
use Rattle.wp_lengths.proofs.KeptLengths.{kept_read, kept_there}
use Rattle.wp_lengths.proofs.wave.Wave.kept_length.Goals as goal

pub returns-then-is-clause-is : goal.returns-then-is-clause-is
returns-then-is-clause-is c =
    let wave : WavePicks = record { layout = c.self.inside.layout; orders = c.self.inside.orders.items; cart = c.self.inside.cart } in
    kept_read c.args.self.now wave c.self.inside.lengths.items c.in_ok-place.place c.index-kept.result.now c.args.batch c.self.view_is c.self.invariant.1
    (omega arith) c.index-kept.ensures (c.is.ensures.0 c.if-is.true)

pub returns-then-is-clause-small : goal.returns-then-is-clause-small
returns-then-is-clause-small c =
    let wave : WavePicks = record { layout = c.self.inside.layout; orders = c.self.inside.orders.items; cart = c.self.inside.cart } in
    (kept_there c.args.self.now wave c.self.inside.lengths.items c.in_ok-place.place c.index-kept.result.now c.self.view_is c.self.invariant.1
    (omega arith) c.index-kept.ensures).small
