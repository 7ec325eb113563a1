use Rattle.std.proofs.Common.{◌∙◌, ap, arith}
use Rattle.wp_lengths.specs.Waves.{WavePicks}
use Rattle.wp_lengths.proofs.Unions.{order_read, put_together, wider_union}
use Rattle.wp_lengths.proofs.wave.Wave.+keeping.Goals as goal

pub keep_wider-keep_all-requires : goal.keep_wider-keep_all-requires
keep_wider-keep_all-requires t c =
    let within = rw (← c.self.view_is) at c.requires.known in
    let read = rw (c.self.view_is) at (order_read (record { layout = c.self.inside.layout; orders = c.self.inside.orders.items; cart = c.self.inside.cart })
    c.args.later.first _ within c.index.ensures) in
    let both = put_together c.args.self.now c.args.later.first _ c.args.picked.now.union.now.points _ _ _ c.new-union.ensures.empty
    c.join.ensures.points read c.join-2.ensures.points in (
      omega arith,
      (
        record {
          layout = c.join-2.ensures.layout ∙ (c.join.ensures.layout ∙ (c.new-union.ensures.layout ∙ ap (λ (w : WavePicks). w.layout) c.self.view_is));
          points = wider_union c.args.self.now c.args.picked.now.batch _ _ _ _ c.with.ensures.orders c.requires.picked.points both;
        },
        c.requires.kept,
      ),
    )
