use Rattle.std.proofs.Common.{inl, inr}
use Rattle.std.proofs.lemmas.Result.{IfErr-weaker, IfOk-weaker, err_from_is_err_and}
use Rattle.wp_top.proofs.check.shown_in.Goals as goal

pub returns-in_err-certificate-clause-stops : goal.returns-in_err-certificate-clause-stops
returns-in_err-certificate-clause-stops g c =
    let p = err_from_is_err_and c.from_residual.result c.from_residual.ensures.1 in
    rw (p.1, p.2) (inl c.in_err-certificate.ensures.stops)

pub returns-clause-stops : goal.returns-clause-stops
returns-clause-stops g c = IfErr-weaker c.check_text.result _ _
    (λ s wrong. inr (c.in_ok-certificate.certificate.items, c.in_ok-certificate.ensures.text, c.in_ok-certificate.ensures.once, wrong))
    c.check_text.ensures.wrong

pub returns-clause-shown : goal.returns-clause-shown
returns-clause-shown g c = IfOk-weaker c.check_text.result _ _
    (λ bound right. record { text = c.in_ok-certificate.certificate.items; read = c.in_ok-certificate.ensures.text; shows = right }) c.check_text.ensures.right
