use Rattle.std.proofs.Common.{◌<◌, ◌∙◌, List, sym, subst, length, arith}
use Rattle.wp_model.proofs.Elements.{All-at}
use Rattle.wp_model.specs.State.{Wave}
use Rattle.wp_model.specs.Step.{Stepped, write_off}
use Rattle.wp_model.specs.declared.row.Row.{Row}
use Rattle.wp_floor.specs.Floor.{HasAnswered, state_at, wave_of}
use Rattle.wp_floor.specs.HeldUnits.{held_of}
use Rattle.wp_floor.specs.MissingUnits.{HasRefilled, HaveRefillSpace}
use Rattle.wp_floor.proofs.BookStates.{refused}
use Rattle.wp_floor.proofs.ClaimedUnits.{enough_by, holder}
use Rattle.wp_floor.proofs.MissingUnits.{answered-weaker, refilled-weaker, refusal_stays}
use Rattle.wp_floor.proofs.refilling.missing_wave.Goals as goal

pub write_off-requires-clause-article : goal.write_off-requires-clause-article
write_off-requires-clause-article c =
    let claim = c.args.claim.now in
    let holds = holder c.args.book.now c.args.number c.args.wave.now claim.order claim.location (held_of c.in-Ok.held) c.in-Ok.ensures.found.held in
    omega (
      arith,
      holds.article,
      All-at (λ (row : Row). row.article < length c.args.opening.now.stock.articles) c.args.book.now.rows c.in-Ok.held.row
          holds.row c.requires.articles holds.there,
    )

pub write_off-requires-clause-rooms : goal.write_off-requires-clause-rooms
write_off-requires-clause-rooms c =
    let claim = c.args.claim.now in
    let holds = holder c.args.book.now c.args.number c.args.wave.now claim.order claim.location (held_of c.in-Ok.held) c.in-Ok.ensures.found.held in
    subst (λ article. HaveRefillSpace c.args.book.now.rows article claim.quantity c.args.rooms) (sym holds.article)
    (c.requires.rooms c.in-Ok.held.row holds.row (sym c.requires.row ∙ holds.at) holds.there)

pub returns-in-Ok-clause-refilled : goal.returns-in-Ok-clause-refilled
returns-in-Ok-clause-refilled c =
    let claim = c.args.claim.now in
    let book = c.args.book.now in
    let was = c.args.wave.now in
    let is = c.in-Ok.ensures.found in
    let holds = holder book c.args.number was claim.order claim.location (held_of c.in-Ok.held) is.held in
    refilled-weaker c.write_off.result _ _ (λ room done. λ (waves : List Wave) at.
    subst (λ (stepped : Stepped). HasRefilled c.args.opening.now stepped book c.write_off.new.book waves c.args.number was c.write_off.new.wave claim.quantity
    room)
    (sym (enough_by book waves c.args.number was claim.order claim.location claim.quantity
    (write_off c.args.opening.now (state_at book waves) c.args.number (wave_of was) claim.quantity) c.in-Ok.held is))
    (done waves at is.released holds.order)) c.write_off.ensures.refilled

pub returns-in-Ok-clause-answered : goal.returns-in-Ok-clause-answered
returns-in-Ok-clause-answered c =
    let claim = c.args.claim.now in
    let book = c.args.book.now in
    let was = c.args.wave.now in
    let is = c.in-Ok.ensures.found in
    let holds = holder book c.args.number was claim.order claim.location (held_of c.in-Ok.held) is.held in
    answered-weaker c.write_off.result _ _ (λ why done. λ (waves : List Wave) at.
    subst (λ (stepped : Stepped). HasAnswered c.args.opening.now stepped book c.write_off.new.book waves c.args.number was c.write_off.new.wave why)
    (sym (enough_by book waves c.args.number was claim.order claim.location claim.quantity
    (write_off c.args.opening.now (state_at book waves) c.args.number (wave_of was) claim.quantity) c.in-Ok.held is))
    (done waves at is.released holds.order)) c.write_off.ensures.lost

pub returns-in-Err-clause-stays : goal.returns-in-Err-clause-stays
returns-in-Err-clause-stays c =
    let claim = c.args.claim.now in
    refusal_stays c.args.book.now c.args.number c.args.wave.now claim.order claim.location claim.quantity c.in-Err.refusal c.in-Err.ensures.refused

pub returns-in-Err-clause-answered : goal.returns-in-Err-clause-answered
returns-in-Err-clause-answered c waves at =
    refused c.args.opening.now c.args.book.now waves c.args.number c.args.wave.now _ c.in-Err.refusal at
    (c.in-Err.ensures.refused waves (write_off c.args.opening.now (state_at c.args.book.now waves) c.args.number
    (wave_of c.args.wave.now) c.args.claim.now.quantity))
