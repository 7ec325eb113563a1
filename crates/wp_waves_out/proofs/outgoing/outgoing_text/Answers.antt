use Rattle.std.proofs.Common.{sym, subst}
use Rattle.wp_model.specs.History.{state_after}
use Rattle.wp_outgoing.specs.Leaving.{AreOfStock}
use Rattle.wp_waves_out.proofs.Going.{turns_of_stock}
use Rattle.wp_waves_out.proofs.outgoing.outgoing_text.Goals as goal

pub told-requires-clause-articles : goal.told-requires-clause-articles
told-requires-clause-articles g c =
    let opening = c.args.planning.now.opening.now in
    subst (AreOfStock opening.stock) (sym c.as_slice-4.ensures.value)
    (turns_of_stock opening (state_after c.args.machine.now) c.args.listed.now c.in_ok-turns.turns.items c.in_ok-turns.ensures)
