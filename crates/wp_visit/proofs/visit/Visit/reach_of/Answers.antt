use Rattle.std.proofs.Common.{arith, refl}
use Rattle.wp_visit.proofs.Reaches.{later_there, whole_there}
use Rattle.wp_visit.proofs.visit.Visit.reach_of.Goals as goal

pub returns-then-place-eq0 : goal.returns-then-place-eq0
returns-then-place-eq0 c = whole_there c.args.self.now
    (record { wave = c.self.inside.wave.now; pairing = c.self.inside.pairs.now; duals = c.self.inside.duals.now })
    c.self.inside.items.items c.self.inside.reaches c.args.place.now c.room_at-room.result _ c.self.view_is c.self.invariant c.if-place-eq0.true
    c.room_at-room.ensures.room refl

pub returns : goal.returns
returns c = later_there c.args.self.now
    (record { wave = c.self.inside.wave.now; pairing = c.self.inside.pairs.now; duals = c.self.inside.duals.now })
    c.self.inside.items.items c.self.inside.reaches c.args.place.now c.index-item.result.now c.room_at-room.result _ c.self.view_is c.self.invariant
    (omega (arith, c.if-place-eq0.false)) c.requires.from c.index-item.ensures c.room_at-room.ensures.room refl
