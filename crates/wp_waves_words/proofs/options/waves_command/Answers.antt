use Rattle.wp_waves_words.specs.Options.{waves_command}
use Rattle.wp_words.proofs.Commands.{one_more}
use Rattle.wp_waves_words.proofs.options.waves_command.Goals as goal

pub returns : goal.returns
unfolding waves_command
returns c =
    let one = one_more _ _ _ _ _ c.in_ok-arg.ensures c.bare_command.ensures c.required_option.ensures.rule c.required_option.ensures.local in
    let two = one_more _ _ _ _ _ c.in_ok-arg-2.ensures one c.required_option-2.ensures.rule c.required_option-2.ensures.local in
    let three = one_more _ _ _ _ _ c.in_ok-arg-3.ensures two c.required_option-3.ensures.rule c.required_option-3.ensures.local in
    let four = one_more _ _ _ _ _ c.in_ok-arg-4.ensures three c.count_option.ensures.rule c.count_option.ensures.local in
    let five = one_more _ _ _ _ _ c.in_ok-arg-5.ensures four c.count_option-2.ensures.rule c.count_option-2.ensures.local in
    let six = one_more _ _ _ _ _ c.in_ok-arg-6.ensures five c.units_option.ensures.rule c.units_option.ensures.local in
    let seven = one_more _ _ _ _ _ c.in_ok-arg-7.ensures six c.named_option.ensures.rule c.named_option.ensures.local in
    let eight = one_more _ _ _ _ _ c.in_ok-arg-8.ensures seven c.named_option-2.ensures.rule c.named_option-2.ensures.local in
    let nine = one_more _ _ _ _ _ c.in_ok-arg-9.ensures eight c.ranged_option.ensures.rule c.ranged_option.ensures.local in
    let ten = one_more _ _ _ _ _ c.in_ok-arg-10.ensures nine c.ranged_option-2.ensures.rule c.ranged_option-2.ensures.local in
    one_more _ _ _ _ _ c.in_ok-command.ensures ten c.ranged_option-3.ensures.rule c.ranged_option-3.ensures.local
