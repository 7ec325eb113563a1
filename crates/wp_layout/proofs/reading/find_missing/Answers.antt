use Rattle.std.proofs.Common.{◌∙◌, arith, sym}
use Rattle.serde_json.specs.View.{view}
use Rattle.wp_layout.specs.LayoutFile.{is_missing}
use Rattle.wp_layout.proofs.Finding.{find_here, find_more}
use Rattle.wp_layout.proofs.reading.find_missing.Goals as goal

pub returns-then-is_missing : goal.returns-then-is_missing
returns-then-is_missing c =
    sym (find_here (is_missing (view c.args.value.now)) c.args.keys.now c.loop-key.key-index _ (omega arith) c.loop-key.invariant
    (sym c.is_missing.ensures ∙ c.if-is_missing.true))

pub loop-key-preserved : goal.loop-key-preserved
loop-key-preserved c =
    find_more (is_missing (view c.args.value.now)) c.args.keys.now c.loop-key.key-index _ (omega arith) c.loop-key.invariant
    (sym c.is_missing.ensures ∙ c.if-is_missing.false)
