use Rattle.wp_words.specs.Options.{audit_command}
use Rattle.wp_words.proofs.Commands.{one_more}
use Rattle.wp_words.proofs.options.audit_command.Goals as goal

pub returns : goal.returns
unfolding audit_command
returns c =
    let one = one_more _ _ _ _ _ c.in_ok-arg.ensures c.bare_command.ensures c.required_option.ensures.rule c.required_option.ensures.local in
    let two = one_more _ _ _ _ _ c.in_ok-arg-2.ensures one c.required_option-2.ensures.rule c.required_option-2.ensures.local in
    let three = one_more _ _ _ _ _ c.in_ok-arg-3.ensures two c.required_option-3.ensures.rule c.required_option-3.ensures.local in
    let four = one_more _ _ _ _ _ c.in_ok-arg-4.ensures three c.required_option-4.ensures.rule c.required_option-4.ensures.local in
    one_more _ _ _ _ _ c.in_ok-command.ensures four c.units_option.ensures.rule c.units_option.ensures.local
