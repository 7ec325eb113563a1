use Rattle.std.proofs.Common.{◌∙◌, sym, ap}
use Rattle.wp_floor.specs.Floor.{state_in}
use Rattle.wp_floor.specs.HeldUnits.{unless_released}
use Rattle.wp_floor.proofs.ClaimedUnits.{claimed_is, is_released, wrong_state}
use Rattle.wp_floor.proofs.held.claimed.Goals as goal

pub returns-in-Some : goal.returns-in-Some
returns-in-Some c = record {
  found = tt;
  refused = wrong_state c.args.book.now c.args.number c.args.wave.now c.args.claim.now.order c.args.claim.now.location c.args.claim.now.quantity
      c.in-Some.refusal (ap unless_released (sym c.state.ensures) ∙ (sym c.wrong_state.ensures ∙ c.in-Some.is));
}

pub returns-in-None : goal.returns-in-None
returns-in-None c =
    let claim = c.args.claim.now in
    let is = claimed_is c.args.book.now c.args.number c.args.wave.now claim.order claim.location claim.quantity c.enough_held.result
    (is_released (state_in c.args.wave.now.stage)
    (ap unless_released (sym c.state.ensures) ∙ (sym c.wrong_state.ensures ∙ c.in-None.is))) c.enough_held.ensures in
    record { found = is.0; refused = is.1 }
