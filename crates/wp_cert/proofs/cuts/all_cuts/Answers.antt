use Rattle.std.proofs.Common.{arith}
use Rattle.wp_cert.proofs.KeptCuts.{more_cuts, not_all_cuts}
use Rattle.wp_cert.proofs.cuts.all_cuts.Goals as goal

pub loop-cut-preserved : goal.loop-cut-preserved
loop-cut-preserved c =
    let kept = c.in_ok-is_cut.ensures.kept c.if-not-is_cut.false in
    let more = more_cuts c.args.count c.args.written.now _ _ c.loop-cut.cut-index c.cut-item.result (omega arith) c.cut-item.is kept.0 kept.1
    c.loop-cut.invariant.value c.loop-cut.invariant.all in record { value = more.0; all = more.1 }

pub returns-then-not-is_cut-clause-none : goal.returns-then-not-is_cut-clause-none
returns-then-not-is_cut-clause-none c =
    not_all_cuts c.args.count c.args.written.now c.loop-cut.cut-index c.cut-item.result _ (omega arith) c.cut-item.is
    (c.in_ok-is_cut.ensures.none c.if-not-is_cut.true)
