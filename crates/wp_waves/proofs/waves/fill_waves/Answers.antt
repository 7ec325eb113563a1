use Rattle.std.proofs.Common.{◌≡◌, ◌∙◌, sym, ap, subst, List, take, length, arith}
use Rattle.std.proofs.lemmas.List.{take_all}
use Rattle.wp_waves.specs.Filling.{AreFilled, waves_kept}
use Rattle.wp_waves.specs.declared.open_orders.OpenOrder.{OpenOrder}
use Rattle.wp_waves.proofs.AsFew.{filled_are_waves}
use Rattle.wp_waves.proofs.Filling.{put_stays}
use Rattle.wp_waves.proofs.KeptWaves.{below_next, take_one}
use Rattle.wp_waves.proofs.waves.fill_waves.Goals as goal

pub loop-one-preserved : goal.loop-one-preserved
loop-one-preserved c =
    let served = c.args.served.now in
    let i = c.loop-one.one-index in
    let one = c.one-item.result in
    subst (λ done. AreFilled c.args.most done (waves_kept c.put.new.waves.items)) (sym (take_one served i one c.loop-one-test.true c.one-item.is))
    (put_stays c.args.most (take i served) (waves_kept c.loop-one.waves.items) (waves_kept c.put.new.waves.items) one c.requires.room c.loop-one.invariant
    (below_next served i one c.requires.ranks c.loop-one-test.true c.one-item.is) c.in_ok-put.ensures)

pub returns : goal.returns
returns c =
    let served = c.args.served.now in
    let all : take c.loop-one.one-index served ≡ served = take_all c.loop-one.one-index served (omega arith) in
    filled_are_waves c.args.most served (waves_kept c.loop-one.waves.items) c.requires.room
    (subst (λ (done : List OpenOrder). AreFilled c.args.most done (waves_kept c.loop-one.waves.items)) all c.loop-one.invariant)
