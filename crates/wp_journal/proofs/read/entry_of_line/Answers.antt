use Rattle.std.proofs.Common.{◌∙◌, ap, sym, Err}
use Rattle.std.proofs.lemmas.Result.{err_from_is_err_and}
use Rattle.wp_journal.proofs.Candidates.{is_line, no_line, one_entry, refusal}
use Rattle.wp_journal.proofs.read.entry_of_line.Goals as goal

pub returns-in_err-entry-clause-refusal : goal.returns-in_err-entry-clause-refusal
returns-in_err-entry-clause-refusal c =
    let p = err_from_is_err_and c.from_residual.result c.from_residual.ensures.1 in
    refusal c.args.line.now c.from_residual.result c.in_err-entry.field-0.0 (p.1 ∙ ap Err p.2) c.in_err-entry.ensures

pub returns-then-is_its_line-clause-entry : goal.returns-then-is_its_line-clause-entry
returns-then-is_its_line-clause-entry c =
    is_line c.args.line.now c.in_ok-entry.entry (sym c.in_ok-is_its_line.ensures ∙ c.if-is_its_line.true)

pub returns-then-is_its_line-clause-only : goal.returns-then-is_its_line-clause-only
returns-then-is_its_line-clause-only c = λ other is.
    one_entry c.args.line.now other c.in_ok-entry.entry is (is_line c.args.line.now c.in_ok-entry.entry
    (sym c.in_ok-is_its_line.ensures ∙ c.if-is_its_line.true))

pub returns-else-is_its_line-clause-refusal : goal.returns-else-is_its_line-clause-refusal
returns-else-is_its_line-clause-refusal c = λ said.
    no_line c.args.line.now c.in_ok-entry.entry c.in_ok-entry.ensures (sym c.in_ok-is_its_line.ensures ∙ c.if-is_its_line.false)
