use Rattle.std.proofs.Common.{◌∙◌, sym, ap, subst, arith}
use Rattle.wp_model.specs.Step.{Stepped, is_live, pick}
use Rattle.wp_floor.specs.Floor.{HasAnswered, state_at, wave_of}
use Rattle.wp_floor.specs.HeldUnits.{held_of}
use Rattle.wp_floor.proofs.BookStates.{refused}
use Rattle.wp_floor.proofs.ClaimedUnits.{enough_by, holder}
use Rattle.wp_floor.proofs.picking.pick_wave.Goals as goal

pub take_picked-requires : goal.take_picked-requires
take_picked-requires c =
    let is = c.in-Ok.ensures.found in
    let holds = holder c.args.book.now c.args.number c.args.wave.now c.args.claim.now.order c.args.claim.now.location (held_of c.in-Ok.held) is.held in
    omega (arith, is.enough, holds.units)

pub returns-in-Ok-clause-answered : goal.returns-in-Ok-clause-answered
returns-in-Ok-clause-answered c opening waves at =
    let is = c.in-Ok.ensures.found in
    let claim = c.args.claim.now in
    let state = state_at c.args.book.now waves in
    let holds = holder c.args.book.now c.args.number c.args.wave.now claim.order claim.location (held_of c.in-Ok.held) is.held in
    subst (λ (stepped : Stepped). HasAnswered opening stepped c.args.book.now c.take_picked.new.book waves c.args.number c.args.wave.now
    c.take_picked.new.wave c.take_picked.result)
    (sym (enough_by c.args.book.now waves c.args.number c.args.wave.now claim.order claim.location claim.quantity
    (pick state c.args.number (wave_of c.args.wave.now) claim.quantity) c.in-Ok.held is))
    (c.take_picked.ensures.answered opening waves at is.released holds.order)

pub returns-in-Err-clause-answered : goal.returns-in-Err-clause-answered
returns-in-Err-clause-answered c opening waves at =
    let claim = c.args.claim.now in
    let state = state_at c.args.book.now waves in
    refused opening c.args.book.now waves c.args.number c.args.wave.now _ c.in-Err.refusal at
    (c.in-Err.ensures.refused waves (pick state c.args.number (wave_of c.args.wave.now) claim.quantity))

pub returns-in-Ok-clause-live : goal.returns-in-Ok-clause-live
returns-in-Ok-clause-live c =
    let released = c.in-Ok.ensures.found.released in
    c.take_picked.ensures.live released ∙ sym (ap is_live released)
