use Rattle.std.proofs.Common.{◌≡◌, ◌∷◌, [], ◌+◌, sym, subst, map, List, arith}
use Rattle.wp_machine.specs.declared.outcome.WaveHolds.{WaveHolds}
use Rattle.wp_outgoing.specs.Sending.{sending_of}
use Rattle.wp_sending.specs.Sent.{asked_after, sent_after}
use Rattle.wp_waves.specs.OpenOrders.{order_of}
use Rattle.wp_waves.specs.declared.open_orders.OpenOrder.{OpenOrder}
use Rattle.wp_sending.proofs.SentWaves.{AreSentBefore, all_sent, none_sent, sent_before_next}
use Rattle.wp_sending.proofs.sending.send_out.Goals as goal

pub loop-place-init : goal.loop-place-init
loop-place-init c =
    let start = c.args.machine.now in
    subst (λ (sent : List WaveHolds). AreSentBefore start start c.args.desk c.args.names.now c.args.waves.now sent 0) (sym c.new-sent.ensures.items)
    (none_sent start c.args.desk c.args.names.now c.args.waves.now c.requires.done)

pub loop-place-preserved : goal.loop-place-preserved
loop-place-preserved c =
    let start = c.args.machine.now in
    let now = c.loop-place.machine in
    let next = c.send_wave.new.machine in
    let name = c.index-names-place.result in
    let wave = c.index-waves-place.result in
    let asked = subst (λ (os : List OpenOrder). next ≡ asked_after now c.args.desk (sending_of name (map order_of os))) c.as_slice.ensures.value
    c.in_ok-wave.ensures.history in
    let told = subst (λ (os : List OpenOrder). sent_after now (sending_of name (map order_of os)) ≡ c.in_ok-wave.wave ∷ []) c.as_slice.ensures.value
    c.in_ok-wave.ensures.sent in
    subst (λ (sent : List WaveHolds). AreSentBefore start next c.args.desk c.args.names.now c.args.waves.now sent (c.loop-place.place + 1))
    (sym c.in_ok-push.ensures.items)
    (sent_before_next start now next c.args.desk c.args.names.now c.args.waves.now c.loop-place.sent.items c.loop-place.place name wave c.in_ok-wave.wave
    (record {
      named = omega (arith, c.requires.names, c.loop-place-test.true);
      there = c.loop-place-test.true;
      name_at = c.index-names-place.is;
      wave_at = c.index-waves-place.is;
    })
    asked told c.loop-place.invariant)

pub returns-clause-history : goal.returns-clause-history
returns-clause-history c =
    (all_sent c.args.machine.now c.loop-place.machine c.args.desk c.args.names.now c.args.waves.now c.loop-place.sent.items c.loop-place.place c.requires.names
    (omega arith) c.loop-place.invariant).0

pub returns-clause-sent : goal.returns-clause-sent
returns-clause-sent c =
    (all_sent c.args.machine.now c.loop-place.machine c.args.desk c.args.names.now c.args.waves.now c.loop-place.sent.items c.loop-place.place c.requires.names
    (omega arith) c.loop-place.invariant).1
