use Rattle.std.proofs.Common.{List, Vec, subst, inl, inr}
use Rattle.std.specs.declared.alloc.Global.{Global}
use Rattle.wp_waves.specs.Filling.{HasNoRoom, HasRoomAt, waves_kept}
use Rattle.wp_waves.specs.declared.open_orders.OpenOrder.{OpenOrder}
use Rattle.wp_waves.proofs.KeptWaves.{joined_kept}
use Rattle.wp_waves.proofs.waves.put.Goals as goal

pub returns-in_ok-push-in-Some : goal.returns-in_ok-push-in-Some
returns-in_ok-push-in-Some c =
    let one = c.args.one.now in
    let place = c.in-Some.place in
    let has = subst (λ (ws : List (Vec OpenOrder Global)). HasRoomAt c.args.most one.group (waves_kept ws) place) c.deref.ensures.value c.in-Some.ensures.some
    in
    inl (joined_kept c.args.most one c.args.waves.now.items place c.index_mut.result.now c.push.new.self has c.index_mut.ensures.value
    c.in_ok-push-in-Some.ensures.items)

pub returns-in_ok-begin-in-None : goal.returns-in_ok-begin-in-None
returns-in_ok-begin-in-None c =
    inr (record {
      full = subst (λ (ws : List (Vec OpenOrder Global)). HasNoRoom c.args.most c.args.one.now.group (waves_kept ws)) c.deref.ensures.value
          c.in-None.ensures.none;
      new_is = c.in_ok-begin-in-None.ensures;
    })
