use Rattle.std.proofs.Common.{◌≡◌, ◌∙◌, sym, ap, ap₂, List, ℕ, Option, take, subst, get_or}
use Rattle.wp_outgoing.specs.Leaving.{left_after, left_for, left_of}
use Rattle.wp_waves.proofs.KeptWaves.{take_one}
use Rattle.wp_waves.specs.Standing.{taker_in}
use Rattle.wp_outgoing.proofs.LeftOrders.{at_map, left_more}
use Rattle.wp_outgoing.proofs.leaving.left_of.Goals as goal

pub loop-place-preserved : goal.loop-place-preserved
loop-place-preserved c = λ taken are.
    let day = c.args.day.now in
    let out = c.args.out.now in
    let listed = c.args.listed.now in
    let i = c.loop-place.place in
    let one = c.index-listed-place.result in
    let taker = c.index-takers-place.result in
    let at : taker ≡ taker_in taken one =
    at_map (taker_in taken) listed i taker one c.loop-place-test.true
    (subst (λ (l : List (Option (List ℕ))). taker ≡ get_or l i taker) are c.index-takers-place.is) c.index-listed-place.is in
    c.in_ok-add_left.ensures
    ∙ (ap₂ left_after (c.loop-place.invariant taken are) (ap (left_for one.order) (c.why_left-why.ensures taken at))
    ∙ (left_more day taken out.turns.now out.waves.now (take i listed) one
    ∙ ap (left_of day taken out.turns.now out.waves.now) (sym (take_one listed i one c.loop-place-test.true c.index-listed-place.is))))
