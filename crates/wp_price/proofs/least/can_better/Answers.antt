use Rattle.std.proofs.Common.{arith, sym, subst, leb-false}
use Rattle.std.specs.Prelude.{Some}
use Rattle.wp_visit.proofs.Children.{reached_place}
use Rattle.wp_price.specs.Searches.{IsBeaten}
use Rattle.wp_price.proofs.Extensions.{beaten_by_reach, full_same, known_beaten}
use Rattle.wp_price.proofs.least.can_better.Goals as goal

pub returns-then-room_at-gt0 : goal.returns-then-room_at-gt0
returns-then-room_at-gt0 c = λ closed batch extends.
    let far = leb-false _ _ closed in
    beaten_by_reach c.args.visit.now c.args.place.now.batch batch _ c.args.raised c.reach_of.result c.args.best.now
    (reached_place c.args.visit.now.pairing c.args.place.now.batch c.requires.place.reached) c.requires.raised c.reach_of.ensures
    (omega (arith, far, c.requires.best.low)) extends

pub returns-else-room_at-gt0 : goal.returns-else-room_at-gt0
returns-else-room_at-gt0 c = λ closed batch extends.
    let same = full_same c.args.visit.now.pairing c.args.place.now.batch batch _
    (reached_place c.args.visit.now.pairing c.args.place.now.batch c.requires.place.reached)
    (omega (arith, c.room_at.ensures.room, c.if-room_at-gt0.false)) extends in
    subst (IsBeaten c.args.visit.now (Some c.args.best.now)) (sym same)
    (known_beaten c.args.visit.now c.args.best.now c.args.place.now.batch c.args.raised c.requires.raised c.requires.best)
