use Rattle.std.proofs.Common.{◌∙◌, ap, subst}
use Rattle.wp_model.specs.History.{History, opened}
use Rattle.wp_model.specs.Tables.{IsReadOpening}
use Rattle.wp_machine.proofs.Askings.{asked_told, legal_told, opening_stays, sound_told}
use Rattle.wp_machine.proofs.asking.answer_all.Goals as goal

pub returns-clause-asked : goal.returns-clause-asked
returns-clause-asked c =
    asked_told c.args.opening.now c.args.askings.now c.entries.result (rw c.in_ok-machine.ensures at c.entries.ensures)

pub returns-clause-legal : goal.returns-clause-legal
returns-clause-legal c =
    legal_told c.args.opening.now c.args.askings.now c.entries.result (rw c.in_ok-machine.ensures at c.entries.ensures)

pub returns-clause-sound : goal.returns-clause-sound
returns-clause-sound c =
    let same = ap (λ (h : History). h.opening) (c.machine.view_is ∙ c.in_ok-machine.ensures) ∙ opening_stays (opened c.args.opening.now) c.args.askings.now in
    sound_told c.args.opening.now c.args.askings.now c.entries.result (subst IsReadOpening same c.machine.invariant.1.floor.read)
    (rw c.in_ok-machine.ensures at c.entries.ensures)
