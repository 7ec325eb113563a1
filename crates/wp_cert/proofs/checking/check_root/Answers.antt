use Rattle.std.proofs.Common.{◌≡◌, arith, sym, ◌∙◌, length}
use Rattle.std.proofs.lemmas.Result.{err_from_is_err_and}
use Rattle.wp_cert.specs.Ways.{at_root}
use Rattle.wp_cert.proofs.TreeSteps.{cut_refused}
use Rattle.wp_cert.proofs.Ways.{way_even, way_path, way_refused}
use Rattle.wp_cert.proofs.checking.check_root.Goals as goal

pub loop-at-init : goal.loop-at-init
loop-at-init c =
    rw (c.to_root-way.ensures.path, c.to_root-way.ensures.notes, c.to_root-way.ensures.above) at_root

pub check_node-requires-clause-path : goal.check_node-requires-clause-path
check_node-requires-clause-path c = way_path _ _ c.args.tree.now.nodes.now c.args.above _ _ _ _ c.loop-at.invariant

pub check_node-requires-clause-even : goal.check_node-requires-clause-even
check_node-requires-clause-even c =
    way_even c.args.tree.now.terms.now c.args.tree.now.capacity.most c.args.tree.now.nodes.now c.args.above _ _ _ _ c.loop-at.invariant

pub returns-in_err-bound-clause-err : goal.returns-in_err-bound-clause-err
returns-in_err-bound-clause-err c =
    let p = err_from_is_err_and c.from_residual.result c.from_residual.ensures.1 in
    rw (p.1, p.2) (way_refused _ _ c.args.tree.now.nodes.now _ _ _ _ _ _ c.loop-at.invariant c.in_err-bound.ensures.err)

pub returns-clause-err : goal.returns-clause-err
returns-clause-err c =
    let end : c.loop-at.at ≡ length c.args.tree.now.nodes.now = omega (arith, c.loop-at-test.false, c.len-at-end.ensures, c.loop-at.auto.at-end) in
    way_refused c.args.tree.now.terms.now c.args.tree.now.capacity.most c.args.tree.now.nodes.now c.args.above _ _ _ c.loop-at.at c.fault_at.result
    c.loop-at.invariant
    (cut_refused _ _ _ c.args.tree.now.nodes.now c.loop-at.at c.fault_at.result end
    (c.fault_at.ensures.node ∙ (c.len.ensures ∙ sym end)) c.fault_at.ensures.why)
