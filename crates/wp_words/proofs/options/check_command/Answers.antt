use Rattle.wp_words.specs.Options.{check_command}
use Rattle.wp_words.proofs.Commands.{one_more}
use Rattle.wp_words.proofs.options.check_command.Goals as goal

pub returns : goal.returns
unfolding check_command
returns c =
    let one = one_more _ _ _ _ _ c.in_ok-arg.ensures c.bare_command.ensures c.required_option.ensures.rule c.required_option.ensures.local in
    one_more _ _ _ _ _ c.in_ok-command.ensures one c.required_option-2.ensures.rule c.required_option-2.ensures.local
