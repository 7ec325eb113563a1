use Rattle.std.proofs.Common.{refl}
use Rattle.wp_model.specs.Step.{at_released, pick}
use Rattle.wp_model.specs.declared.command.Command.TheVariants as command
use Rattle.wp_floor.specs.Floor.{state_of}
use Rattle.wp_floor.proofs.Floors.{answered, found_at, takers_same, unknown_wave}
use Rattle.wp_floor.proofs.OrderNumbers.{knows_order}
use Rattle.wp_floor.proofs.floor.Floor.pick.Goals as goal

pub returns-in_default : goal.returns-in_default
returns-in_default c =
    let claim = c.args.claim.now in
    let state = state_of c.args.self.now in
    unknown_wave c.args.opening.now (command.Pick c.args.name.now claim.order claim.location claim.quantity) c.args.name.now
    (λ number w. at_released state number w claim.order claim.location claim.quantity (pick state number w claim.quantity) w.state) c.args.self.now
    c.take_out.new.self c.requires.floor refl c.in_default.ensures.none c.in_default.ensures.nobody

pub returns : goal.returns
returns c =
    let claim = c.args.claim.now in
    let old = c.args.self.now in
    let state = state_of old in
    let found = c.in-Some.found in
    let left = c.pick_wave-reply.new.wave in
    let is = c.in-Some.ensures.some in
    let at = found_at c.args.opening.now c.args.name.now old c.take_out.new.self found c.requires.floor is in
    let answers = c.pick_wave-reply.ensures.answered c.args.opening.now _ at in
    answered c.args.opening.now (command.Pick c.args.name.now claim.order claim.location claim.quantity) c.args.name.now
    (λ number w. at_released state number w claim.order claim.location claim.quantity (pick state number w claim.quantity) w.state) old c.take_out.new.self
    found
    (record { book = c.pick_wave-reply.new.book; waves = c.put_back.new.self; takers = old.takers }) left c.pick_wave-reply.result refl
    (record {
      floor = c.requires.floor;
      is_found = is;
      answers = answers;
      waves = c.put_back.ensures;
      takers = takers_same c.args.opening.now c.args.name.now old c.put_back.new.self c.take_out.new.self found left c.requires.floor is c.put_back.ensures
          answers.name answers.orders c.pick_wave-reply.ensures.live;
    })

pub pick_wave-reply-requires-clause-order : goal.pick_wave-reply-requires-clause-order
pick_wave-reply-requires-clause-order c =
    let old = c.args.self.now in
    let at = found_at c.args.opening.now c.args.name.now old c.take_out.new.self c.in-Some.found c.requires.floor c.in-Some.ensures.some in
    (c.args.opening.now, knows_order c.args.opening.now old.book _ c.in-Some.found.number c.in-Some.found.wave c.args.claim.now at c.requires.order)
