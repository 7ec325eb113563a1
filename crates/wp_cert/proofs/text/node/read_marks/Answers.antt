use Rattle.std.proofs.Common.{◌≡◌, None, arith, rules, get_or, sym, ◌∙◌}
use Rattle.std.proofs.lemmas.List.{get_or_default}
use Rattle.wp_cert.specs.Text.{each_of, mark_said}
use Rattle.wp_cert.proofs.TextLists.{each_more, each_none, ok_or-err, ok_or-ok}
use Rattle.wp_cert.proofs.text.node.read_marks.Goals as goal

pub returns-in_err-ok_or-clause-bad : goal.returns-in_err-ok_or-clause-bad
returns-in_err-ok_or-clause-bad c =
    let codes = c.as_bytes-code-items.result.now in
    let i = c.loop-code.code-index in
    let is = get_or_default codes i 0 (get_or codes i 0) (omega arith) in
    let none = sym c.mark_in.ensures ∙ ok_or-err _ _ _ (sym c.ok_or.ensures.value ∙ c.in_err-ok_or.was) in
    let said : each_of mark_said c.args.text.now ≡ None =
    rw (sym c.loop-code.invariant.0) (each_none mark_said codes i (get_or codes i 0) (omega arith) is none) in
    search rules

pub loop-code-preserved : goal.loop-code-preserved
loop-code-preserved c =
    let codes = c.as_bytes-code-items.result.now in
    let i = c.loop-code.code-index in
    let is = get_or_default codes i 0 (get_or codes i 0) (omega arith) in
    let some = sym c.mark_in.ensures ∙ ok_or-ok _ _ _ (sym c.ok_or.ensures.value ∙ c.in_ok-ok_or.was) in (
      c.loop-code.invariant.0,
      rw c.in_ok-push.ensures.ok
          (each_more mark_said codes i (get_or codes i 0) _ _ (omega arith) is some c.loop-code.invariant.1),
    )
