use Rattle.wp_planner.proofs.Certified.{sheet_tells}
use Rattle.wp_planner.proofs.SheetParts.{sheet_grown}
use Rattle.wp_planner.proofs.sheet.print_sheet.Goals as goal
use Rattle.std.proofs.Common.{refl}

pub returns : goal.returns
returns c =
    let parts = c.in_ok-print_parts.ensures in (
      _,
      record { parts = parts.0; are = parts.1; is = refl; certified = sheet_tells c.requires.plan.0 _ _ _ _ c.requires.plan.1 },
      sheet_grown c.args.text.now.items _ parts.0 _ _ _ _ _ _ _ _ c.in_ok-print_plan.ensures parts.2 c.in_ok-print_shown.ensures
          c.in_ok-print_bracket.ensures c.in_ok-extend_from_slice.ensures.items,
    )
