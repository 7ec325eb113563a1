use Rattle.wp_cuts.proofs.TableRows.{added_more, added_whole}
use Rattle.wp_cuts.proofs.table.add_row.Goals as goal

pub loop-at-preserved : goal.loop-at-preserved
loop-at-preserved c = added_more c.args.sums.now c.args.row.now c.loop-at.sums c.loop-at.at c.loop-at.invariant c.loop-at-test.true

pub returns : goal.returns
returns c = added_whole c.args.sums.now c.args.row.now c.loop-at.sums c.loop-at.at c.loop-at.invariant c.loop-at-test.false
