use Rattle.std.proofs.Common.{take}
use Rattle.wp_outside.specs.Sections.{GrowsBy}
use Rattle.wp_planner.specs.Sheets.{AreParts}
use Rattle.wp_planner.proofs.sheet.print_parts.Given as goal

abbrev pub invariant-loop-place : goal.invariant-loop-place
invariant-loop-place l =
    GrowsBy (AreParts l.sent.opening.now.stock l.sent.released.now l.sent.plan.now.wave l.sent.terms.now.rules 1
    (take l.place l.sent.plan.now.planned.batching)) l.initial.text.items l.text.items
