use Rattle.std.proofs.Common.{ℕ, ◌∙◌, ap, arith, inl, inr, sym}
use Rattle.std.specs.Prelude.{Some}
use Rattle.std.proofs.lemmas.Result.{err_from_is_err_and}
use Rattle.wp_cert.proofs.WholeTrees.{left_over, root_bound, whole_bound}
use Rattle.wp_cert.proofs.checking.check_nodes.Goals as goal

pub returns-in_err-shown-clause-err : goal.returns-in_err-shown-clause-err
returns-in_err-shown-clause-err c =
    let p = err_from_is_err_and c.from_residual.result c.from_residual.ensures.1 in
    rw (p.1, p.2) (λ named. inl (c.in_err-shown.ensures.err))

pub returns-then-shown-len-clause-err : goal.returns-then-shown-len-clause-err
returns-then-shown-len-clause-err c = λ named. inr
    (left_over c.args.tree.now.terms.now c.args.tree.now.capacity.most c.args.above c.args.tree.now.nodes.now c.in_ok-shown.shown.next
    c.in_ok-shown.shown.bound c.fault_at.result (omega (arith, c.if-shown-len.true, c.len.ensures)) c.in_ok-shown.ensures.ok
    c.fault_at.ensures.node c.fault_at.ensures.why)

pub unwrap-requires : goal.unwrap-requires
unwrap-requires c =
    root_bound c.args.tree.now.terms.now c.args.tree.now.capacity.most c.args.above c.args.tree.now.nodes.now _ c.in_ok-shown.shown.bound
    c.requires.valid c.requires.some c.in_ok-shown.ensures.ok

pub returns-in-Ok-clause-ok : goal.returns-in-Ok-clause-ok
returns-in-Ok-clause-ok c =
    whole_bound c.args.tree.now.terms.now c.args.tree.now.capacity.most c.args.above c.args.tree.now.nodes.now c.in_ok-shown.shown.next c.in-Ok.bound
    c.in_ok-shown.shown.bound (omega (arith, c.if-shown-len.false, c.len.ensures))
    (c.unwrap.ensures ∙ ap (λ (b : ℕ). Some b) (sym c.in-Ok.ensures.1)) c.in_ok-shown.ensures.ok
