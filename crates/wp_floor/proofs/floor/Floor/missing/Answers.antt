use Rattle.std.proofs.Common.{refl}
use Rattle.wp_model.specs.declared.command.Command.TheVariants as command
use Rattle.wp_floor.specs.Floor.{state_of}
use Rattle.wp_floor.proofs.Floors.{found_at, unknown_wave}
use Rattle.wp_floor.proofs.MissingUnits.{missing_answered, missing_at}
use Rattle.wp_floor.proofs.ReceivedUnits.{all_have_articles}
use Rattle.wp_floor.proofs.OrderNumbers.{knows_order}
use Rattle.wp_floor.proofs.floor.Floor.missing.Goals as goal

pub returns-in_default-clause-refused : goal.returns-in_default-clause-refused
returns-in_default-clause-refused c =
    let claim = c.args.claim.now in
    let old = c.args.self.now in
    unknown_wave c.args.opening.now (command.Missing c.args.name.now claim.order claim.location claim.quantity) c.args.name.now
    (missing_at c.args.opening.now (state_of old) claim.order claim.location claim.quantity) old c.take_out.new.self c.requires.floor refl
    c.in_default.ensures.none c.in_default.ensures.nobody

pub missing_wave-done-requires-clause-articles : goal.missing_wave-done-requires-clause-articles
missing_wave-done-requires-clause-articles c = all_have_articles c.args.opening.now c.args.self.now c.requires.floor

pub returns : goal.returns
returns c =
    let claim = c.args.claim.now in
    let done = c.missing_wave-done in
    let is = missing_answered c.args.opening.now c.args.name.now claim.order claim.location claim.quantity c.args.self.now c.take_out.new.self c.in-Some.found
    done.new.book c.put_back.new.self done.new.wave done.result
    (record { floor = c.requires.floor; is_found = c.in-Some.ensures.some; waves_are = c.put_back.ensures; live = done.ensures.live }) done.ensures.refilled
    done.ensures.answered in
    record { out = is.out; told = is.told; stays = done.ensures.stays; refused = is.refused }

pub missing_wave-done-requires-clause-order : goal.missing_wave-done-requires-clause-order
missing_wave-done-requires-clause-order c =
    let old = c.args.self.now in
    let at = found_at c.args.opening.now c.args.name.now old c.take_out.new.self c.in-Some.found c.requires.floor c.in-Some.ensures.some in
    knows_order c.args.opening.now old.book _ c.in-Some.found.number c.in-Some.found.wave c.args.claim.now at c.requires.order
