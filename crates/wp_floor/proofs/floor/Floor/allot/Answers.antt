use Rattle.std.proofs.Common.{refl}
use Rattle.wp_model.specs.Step.{allot}
use Rattle.wp_model.specs.declared.command.Command.TheVariants as command
use Rattle.wp_floor.specs.Floor.{state_of}
use Rattle.wp_floor.proofs.Floors.{answered, found_at, takers_same, unknown_wave}
use Rattle.wp_floor.proofs.floor.Floor.allot.Goals as goal

pub allot_wave-reply-requires-clause-papers : goal.allot_wave-reply-requires-clause-papers
allot_wave-reply-requires-clause-papers c =
    (found_at c.args.opening.now c.args.name.now c.args.self.now c.take_out.new.self c.in-Some.found c.requires c.in-Some.ensures.some).keeps.papers

pub returns-in_default : goal.returns-in_default
returns-in_default c =
    let state = state_of c.args.self.now in
    unknown_wave c.args.opening.now (command.Allot c.args.name.now) c.args.name.now
    (λ number w. allot c.args.opening.now state number w w.state) c.args.self.now c.take_out.new.self c.requires refl c.in_default.ensures.none
    c.in_default.ensures.nobody

pub returns : goal.returns
returns c =
    let old = c.args.self.now in
    let state = state_of old in
    let found = c.in-Some.found in
    let left = c.allot_wave-reply.new.wave in
    let is = c.in-Some.ensures.some in
    let at = found_at c.args.opening.now c.args.name.now old c.take_out.new.self found c.requires is in
    let answers = c.allot_wave-reply.ensures.answered _ at in
    answered c.args.opening.now (command.Allot c.args.name.now) c.args.name.now
    (λ number w. allot c.args.opening.now state number w w.state) old c.take_out.new.self found
    (record { book = c.allot_wave-reply.new.book; waves = c.put_back.new.self; takers = old.takers }) left c.allot_wave-reply.result refl
    (record {
      floor = c.requires;
      is_found = is;
      answers = answers;
      waves = c.put_back.ensures;
      takers = takers_same c.args.opening.now c.args.name.now old c.put_back.new.self c.take_out.new.self found left c.requires is c.put_back.ensures
          answers.name answers.orders c.allot_wave-reply.ensures.live;
    })
