use Rattle.std.proofs.Common.{arith, ap, ◌∙◌}
use Rattle.wp_cuts.specs.Cuts.{CutParts, cut_part}
use Rattle.wp_cuts.proofs.TableRows.{row_more, row_none, row_whole}
use Rattle.wp_cuts.proofs.table.row_of.Goals as goal

pub loop-at-init : goal.loop-at-init
loop-at-init c = row_none c.args.cuts.now.items c.args.order c.zeros-row.result c.zeros-row.ensures

pub loop-at-preserved : goal.loop-at-preserved
loop-at-preserved c =
    row_more c.args.cuts.now.items c.args.order c.loop-at.row c.loop-at.at c.part_of.result c.index.result.now c.loop-at.invariant
    (omega (arith, c.loop-at-test.true, c.len-at-end.ensures, c.requires)) (omega (arith, c.loop-at-test.true, c.len-at-end.ensures))
    (c.part_of.ensures.is ∙ ap (λ (one : CutParts). cut_part one c.args.order) c.index.ensures) c.part_of.ensures.small

pub returns : goal.returns
returns c = row_whole c.args.cuts.now.items c.args.order c.loop-at.row c.loop-at.at c.loop-at.invariant
    (omega (arith, c.loop-at-test.false, c.len-at-end.ensures))
