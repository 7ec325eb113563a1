use Rattle.std.proofs.Common.{◌≡◌, ◌<◌, ◌∙◌, arith, ap, sym, length}
use Rattle.std.proofs.lemmas.Bool.{both_ways}
use Rattle.std.proofs.lemmas.List.Elements.{All-weaker}
use Rattle.wp_lengths.specs.Waves.{WavePicks}
use Rattle.wp_lengths.proofs.Unions.{picked_as_before, picked_by_batch, picked_more, read_of}
use Rattle.wp_lengths.proofs.wave.Wave.join_orders.Goals as goal
use Rattle.wp_lengths.proofs.wave.Wave.join_orders.Goals.{else-has, then-has}

pub loop-place-preserved : goal.loop-place-preserved
loop-place-preserved c =
    let wave : WavePicks = record { layout = c.self.inside.layout; orders = c.self.inside.orders.items; cart = c.self.inside.cart } in
    let is = read_of c.args.self.now wave c.deref-picks-items.result.now c.loop-place.place c.picks-item.result c.self.view_is
    c.deref-picks-items.ensures.value c.loop-place-test.true c.picks-item.is in
    elim c.if-has.branch [
      | then-has w ↦ rw w.union-is (record {
        layout = w.join.ensures.layout ∙ c.loop-place.invariant.layout;
        picked = picked_more _ _ _ _ _ _ (c.has.ensures.exact.0 w.if-has.true) is w.join.ensures.points c.loop-place.invariant.picked;
      })
      | else-has w ↦ rw w.union-is (record {
        layout = c.loop-place.invariant.layout;
        picked = picked_as_before _ _ _ _ (λ h. both_ways c.has.result w.if-has.false (c.has.ensures.exact.1 h)) c.loop-place.invariant.picked;
      })
    ]

pub returns-clause-points : goal.returns-clause-points
returns-clause-points c =
    let all : length c.args.self.now.orders ≡ length c.deref-picks-items.result.now =
    sym (ap (λ (w : WavePicks). length w.orders) c.self.view_is) ∙ sym (ap length c.deref-picks-items.ensures.value) in
    picked_by_batch _ _ _ _
    (All-weaker (λ order. order < length c.args.self.now.orders) (λ order. order < c.loop-place.place)
    (λ order low. omega (arith, low, all, c.loop-place-test.false)) c.args.batch c.requires.orders) c.loop-place.invariant.picked
