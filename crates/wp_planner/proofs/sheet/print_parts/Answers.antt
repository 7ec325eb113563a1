use Rattle.std.proofs.Common.{List, ℕ, subst, sym}
use Rattle.wp_planner.proofs.SheetParts.{grown_more, one_more_item}
use Rattle.wp_outside.specs.Sections.{GrowsBy}
use Rattle.wp_planner.specs.Sheets.{AreParts}
use Rattle.wp_planner.proofs.sheet.print_parts.Goals as goal

pub loop-place-preserved : goal.loop-place-preserved
loop-place-preserved c =
    let sent = c.args.sent.now in
    let more = one_more_item sent.plan.now.planned.batching c.loop-place.place c.at-batch.result.now c.at-batch.ensures in
    subst (λ (batches : List (List ℕ)).
    GrowsBy (AreParts sent.opening.now.stock sent.released.now sent.plan.now.wave sent.terms.now.rules 1 batches) c.args.text.now.items
    c.print_part.new.text.items) (sym more.0)
    (grown_more _ _ _ _ _ _ _ _ _ _ more.1 c.loop-place.invariant c.in_ok-print_part.ensures)
