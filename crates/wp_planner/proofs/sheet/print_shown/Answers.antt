use Rattle.std.proofs.Common.{append_assoc, ◌++◌, ◌∙◌}
use Rattle.std.specs.Prelude.{codes}
use Rattle.wp_planner.proofs.sheet.print_shown.Goals as goal

pub returns : goal.returns
returns c =
    let text = c.args.text.now.items in
    rw (
      c.in_ok-extend_from_slice-3.ensures.items,
      c.in_ok-extend_from_slice-2.ensures.items,
      c.in_ok-extend_from_slice.ensures.items,
      c.deref.ensures.value,
      c.in_ok-certificate.ensures.text,
      c.capacity-capacity.ensures,
    ) (append_assoc (text ++ codes "certificate ") _ (codes "\n") ∙ append_assoc text (codes "certificate ") _)
