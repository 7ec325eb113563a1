use Rattle.std.proofs.Common.{inl, inr}
use Rattle.std.proofs.lemmas.Result.{IfErr-weaker, IfOk-weaker, err_from_is_err_and}
use Rattle.wp_top.proofs.audit.found_in.Goals as goal

pub returns-in_err-journal-clause-stops : goal.returns-in_err-journal-clause-stops
returns-in_err-journal-clause-stops g c =
    let p = err_from_is_err_and c.from_residual.result c.from_residual.ensures.1 in
    rw (p.1, p.2) (inl c.in_err-journal.ensures.stops)

pub returns-clause-stops : goal.returns-clause-stops
returns-clause-stops g c = IfErr-weaker c.audit_text.result _ _
    (λ s wrong. inr (c.in_ok-journal.journal.items, c.in_ok-journal.ensures.text, c.in_ok-journal.ensures.once, wrong)) c.audit_text.ensures.wrong

pub returns-clause-found : goal.returns-clause-found
returns-clause-found g c = IfOk-weaker c.audit_text.result _ _
    (λ found right. record { text = c.in_ok-journal.journal.items; read = c.in_ok-journal.ensures.text; shows = right }) c.audit_text.ensures.right
