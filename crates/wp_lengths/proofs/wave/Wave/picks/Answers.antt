use Rattle.std.proofs.Common.{List, Contains, subst, sym}
use Rattle.wp_model.specs.declared.point.Point.{Point}
use Rattle.wp_lengths.specs.Waves.{WavePicks}
use Rattle.wp_lengths.proofs.Unions.{order_read}
use Rattle.wp_lengths.proofs.wave.Wave.picks.Goals as goal

pub returns-clause-points : goal.returns-clause-points
returns-clause-points c =
    let wave : WavePicks = record { layout = c.self.inside.layout; orders = c.self.inside.orders.items; cart = c.self.inside.cart } in
    let within = rw (← c.self.view_is) at c.requires in
    let is = order_read wave c.args.i _ within c.index.ensures in
    rw (← c.self.view_is) (λ p. (
      λ has. subst (λ (xs : List Point). Contains xs p) is ((c.copy_of.ensures.points p).0 has),
      λ has. (c.copy_of.ensures.points p).1 (subst (λ (xs : List Point). Contains xs p) (sym is) has),
    ))
