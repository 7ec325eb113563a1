use Rattle.std.proofs.Common.{refl}
use Rattle.wp_model.specs.Step.{release}
use Rattle.wp_model.specs.declared.command.Command.TheVariants as command
use Rattle.wp_floor.specs.Floor.{state_of}
use Rattle.wp_floor.proofs.Floors.{found_at, unknown_wave}
use Rattle.wp_floor.proofs.ReleasedWaves.{release_out, release_refused, release_told}
use Rattle.wp_floor.proofs.floor.Floor.release.Goals as goal

pub release_wave-done-requires-clause-papers : goal.release_wave-done-requires-clause-papers
release_wave-done-requires-clause-papers c =
    (found_at c.args.opening.now c.args.name.now c.args.self.now c.take_out.new.self c.in-Some.found c.requires c.in-Some.ensures.some).keeps.papers

pub returns-in_default : goal.returns-in_default
returns-in_default c =
    let state = state_of c.args.self.now in
    record {
      out = tt;
      told = tt;
      stays = refl;
      refused = unknown_wave c.args.opening.now (command.Release c.args.name.now) c.args.name.now
          (λ number w. release c.args.opening.now state number w w.state) c.args.self.now c.take_out.new.self c.requires refl c.in_default.ensures.none
          c.in_default.ensures.nobody;
    }

pub returns-clause-out : goal.returns-clause-out
returns-clause-out c =
    release_out c.args.opening.now c.args.name.now c.args.self.now c.take_out.new.self c.in-Some.found
    (record { book = c.release_wave-done.new.book; waves = c.put_back.new.self; takers = c.args.self.now.takers }) c.release_wave-done.new.wave
    c.release_wave-done.result
    (record {
      floor = c.requires;
      is_found = c.in-Some.ensures.some;
      waves = c.put_back.ensures;
      takers = refl;
      live = c.release_wave-done.ensures.live;
    }) c.release_wave-done.ensures.out

pub returns-clause-told : goal.returns-clause-told
returns-clause-told c =
    release_told c.args.opening.now c.args.name.now c.args.self.now c.take_out.new.self c.in-Some.found
    (record { book = c.release_wave-done.new.book; waves = c.put_back.new.self; takers = c.args.self.now.takers }) c.release_wave-done.new.wave
    c.release_wave-done.result
    (record {
      floor = c.requires;
      is_found = c.in-Some.ensures.some;
      waves = c.put_back.ensures;
      takers = refl;
      live = c.release_wave-done.ensures.live;
    }) c.release_wave-done.ensures.out

pub returns-clause-refused : goal.returns-clause-refused
returns-clause-refused c =
    release_refused c.args.opening.now c.args.name.now c.args.self.now c.take_out.new.self c.in-Some.found
    (record { book = c.release_wave-done.new.book; waves = c.put_back.new.self; takers = c.args.self.now.takers }) c.release_wave-done.new.wave
    c.release_wave-done.result
    (record {
      floor = c.requires;
      is_found = c.in-Some.ensures.some;
      waves = c.put_back.ensures;
      takers = refl;
      live = c.release_wave-done.ensures.live;
    }) c.release_wave-done.ensures.refused
