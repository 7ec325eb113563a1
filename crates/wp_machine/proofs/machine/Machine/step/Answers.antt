use Rattle.std.proofs.Common.{◌≡◌, ◌∙◌, refl, sym, ap, subst, List, [], ◌∷◌, ◌++◌, length, arith, length-append}
use Rattle.wp_model.specs.History.{History, next_entry}
use Rattle.wp_model.specs.Opening.{Opening}
use Rattle.wp_model.specs.declared.entry.Entry.{Entry}
use Rattle.wp_machine.specs.Answering.{IsMachine}
use Rattle.wp_machine.specs.Prepared.{IsPreparedFor}
use Rattle.wp_machine.proofs.Stepping.{asked_of, entry_is, machine_steps, outcome_is, reply_is}
use Rattle.wp_machine.proofs.machine.Machine.step.Goals as goal

pub answer_prepared-answer-requires-clause-prepared : goal.answer_prepared-answer-requires-clause-prepared
answer_prepared-answer-requires-clause-prepared c =
    let asked = c.into_parts-command.result.0 in
    let same : c.args.ready.opening ≡ c.self.inside.opening.now = c.requires.same ∙ ap (λ (h : History). h.opening) (sym c.self.view_is) in
    (asked, subst (λ (o : Opening). IsPreparedFor o asked c.into_parts-command.result.1) same c.into_parts-command.ensures.prepared)

pub invariant_of-self : goal.invariant_of-self
invariant_of-self c =
    let h : History = record { opening = c.self.inside.opening.now; entries = c.self.inside.entries } in
    let asked = c.into_parts-command.result.0 in
    let same : c.args.ready.opening ≡ c.self.inside.opening.now = c.requires.same ∙ ap (λ (h : History). h.opening) (sym c.self.view_is) in
    let prepared = subst (λ (o : Opening). IsPreparedFor o asked c.into_parts-command.result.1) same c.into_parts-command.ensures.prepared in
    let few = rw (← c.self.view_is) at c.requires.few in
    let floor = c.self.inside.floor in
    let next = c.answer_prepared-answer.new.floor in
    let answer = c.answer_prepared-answer.result in
    let is = asked_of h c.self.inside.count c.args.desk asked floor next answer c.self.invariant.0 few c.self.invariant.1
    (c.answer_prepared-answer.ensures asked prepared) in
    let entry = c.entry_of-entry.ensures ∙ entry_is h c.args.desk asked floor next answer is c.self.inside.count c.self.invariant.0 in
    let entries : c.push.new.self ≡ h.entries ++ next_entry h c.args.desk asked ∷ [] = c.push.ensures ∙ ap (λ (e : Entry). h.entries ++ e ∷ []) entry in (
      omega (arith, c.self.invariant.0, ap length entries, length-append h.entries (next_entry h c.args.desk asked ∷ [])),
      subst (λ (es : List Entry). IsMachine (record { opening = h.opening; entries = es }) next) (sym entries)
          (machine_steps h c.args.desk asked floor next answer is),
    )

pub returns-clause-history : goal.returns-clause-history
returns-clause-history c =
    let h : History = record { opening = c.self.inside.opening.now; entries = c.self.inside.entries } in
    let asked = c.into_parts-command.result.0 in
    let same : c.args.ready.opening ≡ c.self.inside.opening.now = c.requires.same ∙ ap (λ (h : History). h.opening) (sym c.self.view_is) in
    let prepared = subst (λ (o : Opening). IsPreparedFor o asked c.into_parts-command.result.1) same c.into_parts-command.ensures.prepared in
    let few = rw (← c.self.view_is) at c.requires.few in
    let is = asked_of h c.self.inside.count c.args.desk asked c.self.inside.floor c.answer_prepared-answer.new.floor c.answer_prepared-answer.result
    c.self.invariant.0 few c.self.invariant.1 (c.answer_prepared-answer.ensures asked prepared) in
    let entry = c.entry_of-entry.ensures ∙ entry_is h c.args.desk asked c.self.inside.floor c.answer_prepared-answer.new.floor c.answer_prepared-answer.result
    is
    c.self.inside.count c.self.invariant.0 in
    rw (← c.self.view_is, ← c.into_parts-command.ensures.command, c.push.ensures, entry) refl

pub returns-clause-number : goal.returns-clause-number
returns-clause-number c =
    let h : History = record { opening = c.self.inside.opening.now; entries = c.self.inside.entries } in
    let asked = c.into_parts-command.result.0 in
    let same : c.args.ready.opening ≡ c.self.inside.opening.now = c.requires.same ∙ ap (λ (h : History). h.opening) (sym c.self.view_is) in
    let prepared = subst (λ (o : Opening). IsPreparedFor o asked c.into_parts-command.result.1) same c.into_parts-command.ensures.prepared in
    rw (← c.self.view_is) ((c.answer_prepared-answer.ensures asked prepared).numbered ∙ c.self.invariant.0)

pub returns-clause-reply : goal.returns-clause-reply
returns-clause-reply c =
    let h : History = record { opening = c.self.inside.opening.now; entries = c.self.inside.entries } in
    let asked = c.into_parts-command.result.0 in
    let same : c.args.ready.opening ≡ c.self.inside.opening.now = c.requires.same ∙ ap (λ (h : History). h.opening) (sym c.self.view_is) in
    let prepared = subst (λ (o : Opening). IsPreparedFor o asked c.into_parts-command.result.1) same c.into_parts-command.ensures.prepared in
    let few = rw (← c.self.view_is) at c.requires.few in
    let is = asked_of h c.self.inside.count c.args.desk asked c.self.inside.floor c.answer_prepared-answer.new.floor c.answer_prepared-answer.result
    c.self.invariant.0 few c.self.invariant.1 (c.answer_prepared-answer.ensures asked prepared) in
    rw (← c.self.view_is, ← c.into_parts-command.ensures.command)
    (reply_is h c.args.desk asked c.self.inside.floor c.answer_prepared-answer.new.floor c.answer_prepared-answer.result is)

pub returns-clause-outcome : goal.returns-clause-outcome
returns-clause-outcome c =
    let h : History = record { opening = c.self.inside.opening.now; entries = c.self.inside.entries } in
    let asked = c.into_parts-command.result.0 in
    let same : c.args.ready.opening ≡ c.self.inside.opening.now = c.requires.same ∙ ap (λ (h : History). h.opening) (sym c.self.view_is) in
    let prepared = subst (λ (o : Opening). IsPreparedFor o asked c.into_parts-command.result.1) same c.into_parts-command.ensures.prepared in
    let few = rw (← c.self.view_is) at c.requires.few in
    let is = asked_of h c.self.inside.count c.args.desk asked c.self.inside.floor c.answer_prepared-answer.new.floor c.answer_prepared-answer.result
    c.self.invariant.0 few c.self.invariant.1 (c.answer_prepared-answer.ensures asked prepared) in
    rw (← c.self.view_is, ← c.into_parts-command.ensures.command)
    (outcome_is h c.args.desk asked c.self.inside.floor c.answer_prepared-answer.new.floor c.answer_prepared-answer.result is)
