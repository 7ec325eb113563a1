use Rattle.std.proofs.Common.{◌∙◌, ap, length, sym}
use Rattle.std.proofs.lemmas.List.{length-map}
use Rattle.wp_top.proofs.MadeDays.{released_count}
use Rattle.wp_top.proofs.summary.summary_text.Goals as goal

pub print_commands-requires : goal.print_commands-requires
print_commands-requires c =
    let sent = c.args.day.now.plans.items in
    ap length c.as_slice-planned.ensures.value
    ∙ (sym (length-map sent (λ s. s.wave)) ∙ (ap length c.requires.waves ∙ released_count c.args.day.now.machine c.requires.legal))
