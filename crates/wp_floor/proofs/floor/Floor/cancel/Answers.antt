use Rattle.std.proofs.Common.{◌∙◌, sym, subst, refl, List, Option, ℕ, None, map, arith}
use Rattle.std.proofs.lemmas.List.{with_items_is}
use Rattle.std.specs.Vec.{with_items}
use Rattle.wp_model.specs.Step.{cancel}
use Rattle.wp_model.specs.declared.command.Command.TheVariants as command
use Rattle.wp_floor.specs.Floor.{AreTakers, state_of, wave_of}
use Rattle.wp_floor.specs.Takers.{HasPut, HaveTakers}
use Rattle.wp_floor.specs.Waves.{waves_of}
use Rattle.wp_floor.proofs.Floors.{answered, found_at, takers_after_cancel, unknown_wave}
use Rattle.wp_floor.proofs.floor.Floor.cancel.Goals as goal

pub returns-in_default : goal.returns-in_default
returns-in_default c =
    let state = state_of c.args.self.now in
    unknown_wave c.args.opening.now (command.Cancel c.args.name.now) c.args.name.now
    (λ number w. cancel state number w w.state) c.args.self.now c.take_out.new.self c.requires refl c.in_default.ensures.none c.in_default.ensures.nobody

pub returns : goal.returns
returns c =
    let old = c.args.self.now in
    let state = state_of old in
    let found = c.in-Some.found in
    let left = c.cancel_wave-reply.new.wave in
    let is = c.in-Some.ensures.some in
    let at = found_at c.args.opening.now c.args.name.now old c.take_out.new.self found c.requires is in
    let answers = c.cancel_wave-reply.ensures.answered c.args.opening.now _ at in
    let takers = c.free_orders.new.takers in
    let now = with_items_is old.takers takers (omega arith) in
    let before = c.deref_mut.ensures.value in
    let have = subst (λ (ts : List (Option (List ℕ))). HaveTakers c.args.opening.now left ts) (sym before)
    (record { read = c.requires.read.orders; count = c.requires.takers.count; numbered = answers.keeps.numbered }) in
    let freed = takers_after_cancel c.args.opening.now c.args.name.now old c.put_back.new.self c.take_out.new.self found left takers
    c.cancel_wave-reply.result c.requires is c.put_back.ensures answers.name answers.orders
    c.cancel_wave-reply.ensures.cancelled c.cancel_wave-reply.ensures.same
    (λ e. subst (λ (ts : List (Option (List ℕ))). HasPut c.args.opening.now left.orders None ts takers) before
    (c.free_orders.ensures.freed c.args.opening.now have e))
    (λ e. c.free_orders.ensures.same e ∙ before) in
    answered c.args.opening.now (command.Cancel c.args.name.now) c.args.name.now (λ number w. cancel state number w w.state) old c.take_out.new.self found
    (record { book = c.cancel_wave-reply.new.book; waves = c.put_back.new.self; takers = with_items old.takers takers }) left c.cancel_wave-reply.result refl
    (record {
      floor = c.requires;
      is_found = is;
      answers = answers;
      waves = c.put_back.ensures;
      takers = subst (λ (ts : List (Option (List ℕ))). AreTakers c.args.opening.now (map wave_of (waves_of c.put_back.new.self)) ts) (sym now) freed;
    })

pub free_orders-requires : goal.free_orders-requires
free_orders-requires c =
    let old = c.args.self.now in
    let at = found_at c.args.opening.now c.args.name.now old c.take_out.new.self c.in-Some.found c.requires c.in-Some.ensures.some in (
      c.args.opening.now,
      subst (λ (ts : List (Option (List ℕ))). HaveTakers c.args.opening.now c.cancel_wave-reply.new.wave ts) (sym c.deref_mut.ensures.value)
          (record {
            read = c.requires.read.orders;
            count = c.requires.takers.count;
            numbered = (c.cancel_wave-reply.ensures.answered c.args.opening.now _ at).keeps.numbered;
          }),
    )
