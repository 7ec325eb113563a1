use Rattle.std.proofs.Common.{◌∙◌, ap, subst, sym, length, List, ℕ, Err}
use Rattle.std.proofs.lemmas.Result.{err_from_is_err_and}
use Rattle.wp_journal.specs.Auditing.{Judges, Restores, Tells, first_line}
use Rattle.wp_journal.specs.Grammar.{IsLineOf}
use Rattle.wp_journal.specs.Journals.{Begins, is_end, lines_of}
use Rattle.wp_model.specs.History.{next_entry}
use Rattle.wp_journal.specs.declared.verdict.AuditFault.{AuditFault}
use Rattle.wp_journal.proofs.Findings.{begins_at, ends_early, ends_well, leads_on, stops}
use Rattle.wp_journal.proofs.Lines.{no_bytes, some_bytes}
use Rattle.wp_journal.proofs.replay.replay_entries.Goals as goal

pub returns-then-is_end : goal.returns-then-is_end
returns-then-is_end c = λ whole lines.
    let rest = c.loop-rest.rest.now in
    let some = some_bytes (length rest) c.is_empty.result c.is_empty.ensures c.loop-rest-test.true in
    let ends = ap is_end (sym c.split_line.ensures.first) ∙ (sym c.is_end.ensures ∙ c.if-is_end.true) in
    ends_well c.args.opening.now whole c.loop-rest.machine (first_line rest) _
    (begins_at c.args.opening.now whole c.loop-rest.machine rest some (c.loop-rest.invariant.0 whole lines)) ends

pub returns-in_err-take_line : goal.returns-in_err-take_line
returns-in_err-take_line c = λ whole lines.
    let rest = c.loop-rest.rest.now in
    let some = some_bytes (length rest) c.is_empty.result c.is_empty.ensures c.loop-rest-test.true in
    let goes = ap is_end (sym c.split_line.ensures.first) ∙ (sym c.is_end.ensures ∙ c.if-is_end.false) in
    let p = err_from_is_err_and c.from_residual-in_err-take_line.result c.from_residual-in_err-take_line.ensures.1 in
    subst (Restores c.args.opening.now whole) (sym (p.1 ∙ ap Err p.2))
    (stops (Unit {0}) c.args.opening.now whole c.loop-rest.machine c.take_line.new.machine (first_line rest) _ c.in_err-take_line.field-0.0
    (begins_at c.args.opening.now whole c.loop-rest.machine rest some (c.loop-rest.invariant.0 whole lines)) goes
    (subst (λ (next : List ℕ). Judges {U = Unit {0}} c.loop-rest.machine next c.take_line.new.machine (Err c.in_err-take_line.field-0.0))
    c.split_line.ensures.first c.in_err-take_line.ensures.judges))

pub loop-rest-preserved : goal.loop-rest-preserved
loop-rest-preserved c =
    let rest = c.loop-rest.rest.now in
    let some = some_bytes (length rest) c.is_empty.result c.is_empty.ensures c.loop-rest-test.true in
    let judged = c.in_ok-take_line.ensures.judges in (
      λ whole lines. subst (λ (more : List ℕ). Begins c.args.opening.now whole c.take_line.new.machine (lines_of more)) (sym c.split_line.ensures.after)
          (leads_on c.args.opening.now whole c.loop-rest.machine c.take_line.new.machine (first_line rest) _
          (begins_at c.args.opening.now whole c.loop-rest.machine rest some (c.loop-rest.invariant.0 whole lines)) judged.0 judged.1
          (subst (λ (next : List ℕ). IsLineOf next (next_entry c.loop-rest.machine judged.0 judged.1)) c.split_line.ensures.first judged.2) judged.3),
      c.in_ok-take_line.ensures.next.opening ∙ c.loop-rest.invariant.1,
      c.in_ok-take_line.ensures.next.few,
    )

pub returns : goal.returns
returns c = λ whole lines.
    let none = no_bytes c.loop-rest.rest.now c.is_empty.result c.is_empty.ensures c.loop-rest-test.false in
    subst (λ (why : AuditFault). Tells c.args.opening.now whole (Err why)) (sym c.bad_line.ensures)
    (ends_early c.args.opening.now whole c.loop-rest.machine
    (subst (λ (left : List ℕ). Begins c.args.opening.now whole c.loop-rest.machine (lines_of left)) none (c.loop-rest.invariant.0 whole lines)))
