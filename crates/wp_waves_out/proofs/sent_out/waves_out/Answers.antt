use Rattle.std.proofs.Common.{refl, ◌≡◌, ◌∙◌, ◌≤◌, sym, ap, subst, ℕ, List, length, take, drop, All, Vec, arith}
use Rattle.std.proofs.lemmas.List.{length-take}
use Rattle.std.proofs.lemmas.Result.{IfOk-weaker}
use Rattle.std.specs.declared.alloc.Global.{Global}
use Rattle.wp_floor.proofs.Floors.{is_opening}
use Rattle.wp_model.specs.History.{state_after}
use Rattle.wp_model.specs.Limits.{most_entries, most_wave_orders}
use Rattle.wp_model.specs.Opening.{Opening}
use Rattle.wp_outgoing.proofs.ShortGroups.{each_served}
use Rattle.wp_outgoing.specs.Names.{HasShortGroup}
use Rattle.wp_outgoing.specs.Room.{waves_with_room}
use Rattle.wp_waves.proofs.KeptWaves.{kept_length}
use Rattle.wp_waves.specs.Filling.{waves_kept}
use Rattle.wp_waves.specs.OpenOrders.{IsOpenOrder}
use Rattle.wp_waves.specs.declared.open_orders.OpenOrder.{OpenOrder}
use Rattle.wp_waves_out.proofs.Filled.{sends_released}
use Rattle.wp_waves_out.proofs.Going.{AreGoing, count_first, count_out, desk_may_be, few_first, first_kept, go_out_first, right_first, within_most}
use Rattle.wp_waves_out.proofs.Going.{within_room}
use Rattle.wp_waves_out.specs.NamedWaves.{AreSentNamed, MayBeSent}
use Rattle.wp_waves_out.proofs.sent_out.waves_out.Goals as goal

-- the first waves of a slice are the first of all
first_is : (slice waves : List (Vec OpenOrder Global)) (going : ℕ) → slice ≡ waves → waves_kept (take going slice) ≡ take going (waves_kept waves)
first_is slice waves going same = ap (λ (ws : List (Vec OpenOrder Global)). waves_kept (take going ws)) same ∙ first_kept waves going

-- so many go out
going_is : (slice waves : List (Vec OpenOrder Global)) (going count asked most had entries : ℕ) → slice ≡ waves → count ≡ length slice
    → asked ≡ most → had ≡ entries → entries ≤ most_entries → going ≡ waves_with_room count asked had → AreGoing (waves_kept waves) going most entries
going_is slice waves going count asked most had entries same counted as_asked read few is =
    let all : count ≡ length (waves_kept waves) = counted ∙ (ap (λ (l : List (Vec OpenOrder Global)). length l) same ∙ sym (kept_length waves)) in
    record {
      is = is ∙ (ap (λ (n : ℕ). waves_with_room n asked had) all
          ∙ (ap (λ (n : ℕ). waves_with_room (length (waves_kept waves)) n had) as_asked
          ∙ ap (λ (n : ℕ). waves_with_room (length (waves_kept waves)) most n) read));
      few = few;
    }

pub sought_waves-requires-clause-known : goal.sought_waves-requires-clause-known
sought_waves-requires-clause-known g c κs within =
    let h = c.args.machine.now in
    let orders = c.args.planning.now.opening.now.orders in
    each_served (IsOpenOrder orders) h.opening (state_after h) c.requires.turns.0 c.args.turns.now c.requires.turns.2
    (subst (λ (o : Opening). All (IsOpenOrder o.orders) c.requires.turns.0) c.requires.same c.requires.turns.1.each)

pub send_named-requires-clause-short : goal.send_named-requires-clause-short
send_named-requires-clause-short g c κs within =
    let h = c.args.machine.now in
    let ws = c.in_ok-waves.waves.items in
    let going = c.waves_with_room-going.result in
    let all = waves_kept ws in
    subst (All HasShortGroup) (sym (first_is c.as_slice-all.result.now ws going c.as_slice-all.ensures.value))
    (c.waves_of_served_orders_may_be_named.ensures h.opening (state_after h) c.requires.turns.0 c.args.turns.now c.args.terms.now.wave (take going all)
    (drop going all) c.requires.turns.1 c.requires.turns.2 (right_first _ _ all going c.in_ok-waves.ensures))

pub send_named-requires-clause-few : goal.send_named-requires-clause-few
send_named-requires-clause-few g c κs within =
    let ws = c.in_ok-waves.waves.items in
    let going = c.waves_with_room-going.result in
    subst (All (λ (wave : List OpenOrder). length wave ≤ most_wave_orders)) (sym (first_is c.as_slice-all.result.now ws going c.as_slice-all.ensures.value))
    (few_first c.args.terms.now.wave most_wave_orders (waves_kept ws) going c.in_ok-waves.ensures.few c.requires.terms.wave)

pub send_named-requires-clause-done : goal.send_named-requires-clause-done
send_named-requires-clause-done g c κs within =
    let h = c.args.machine.now in
    let ws = c.in_ok-waves.waves.items in
    let going = c.waves_with_room-going.result in
    let all = waves_kept ws in
    subst (MayBeSent h) (sym (first_is c.as_slice-all.result.now ws going c.as_slice-all.ensures.value))
    (λ names named. c.waves_of_served_orders_go_out.ensures h.opening (state_after h) c.requires.turns.0 c.args.turns.now c.args.terms.now.wave
    (take going all) (drop going all) names (is_opening h.opening c.count.ensures.read) c.requires.turns.1 c.requires.turns.2 c.requires.terms.wave
    (right_first _ _ all going c.in_ok-waves.ensures) named)

pub send_named-requires-clause-released : goal.send_named-requires-clause-released
send_named-requires-clause-released g c κs within = sends_released c.args.machine.now c.count.ensures.read c.count.ensures.sound

pub send_named-requires-clause-room : goal.send_named-requires-clause-room
send_named-requires-clause-room g c κs within =
    let h = c.args.machine.now in
    let ws = c.in_ok-waves.waves.items in
    let going = c.waves_with_room-going.result in
    let goes = going_is c.as_slice-all.result.now ws going (length c.as_slice-all.result.now) c.from.result c.args.terms.now.most
    c.count.result (length h.entries)
    c.as_slice-all.ensures.value refl c.from.ensures c.count.ensures.count c.requires.few c.waves_with_room-going.ensures in
    omega (arith, within_room (waves_kept ws) going c.args.terms.now.most (length h.entries) goes, taken c.as_slice-all.result.now going)
  where
    taken : (slice : List (Vec OpenOrder Global)) (going : ℕ) → length (take going slice) ≤ going
    taken slice going = omega (arith, length-take going slice)

pub returns : goal.returns
returns g c =
    let h = c.args.machine.now in
    let terms = c.args.terms.now in
    let turns = c.args.turns.now in
    let layout = c.args.planning.now.layout.now in
    let capacity = c.args.planning.now.terms.now.capacity in
    let ws = c.in_ok-waves.waves.items in
    let going = c.waves_with_room-going.result in
    let all = waves_kept ws in
    let goes = going_is c.as_slice-all.result.now ws going (length c.as_slice-all.result.now) c.from.result terms.most c.count.result (length h.entries)
    c.as_slice-all.ensures.value refl c.from.ensures c.count.ensures.count c.requires.few c.waves_with_room-going.ensures in
    let right = right_first _ _ all going c.in_ok-waves.ensures in
    IfOk-weaker c.send_named.result _ _ (λ out sent.
    let named = subst (λ (waves : List (List OpenOrder)). AreSentNamed layout capacity h waves out.items)
    (first_is c.as_slice-all.result.now ws going c.as_slice-all.ensures.value) sent in
    go_out_first layout capacity h terms turns all going out.items (record { read = c.count.ensures.read; legal = c.count.ensures.legal })
    c.in_ok-waves.ensures goes
    (λ names is. c.waves_of_served_orders_go_out.ensures h.opening (state_after h) c.requires.turns.0 turns terms.wave
    (take going all) (drop going all) names (is_opening h.opening c.count.ensures.read) c.requires.turns.1 c.requires.turns.2 c.requires.terms.wave
    right is)
    named
    (c.printed_desk_files_are_read.ensures.read terms.desk out.items (desk_may_be terms c.requires.terms)
    (omega (
      arith,
      count_out named.names (take going all) named.starts out.items named.told,
      count_first all going,
      within_most all going terms.most (length h.entries) goes,
      c.requires.terms.most,
    ))
    (c.waves_of_served_orders_may_be_printed.ensures h.opening (state_after h) c.requires.turns.0 turns terms.wave (take going all) (drop going all) named.names
    named.starts out.items c.count.ensures.read c.requires.turns.1 c.requires.turns.2 c.requires.terms.wave right named.told named.are_names)))
    c.send_named.ensures
