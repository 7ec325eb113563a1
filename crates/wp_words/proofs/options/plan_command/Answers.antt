use Rattle.wp_words.specs.Options.{plan_command}
use Rattle.wp_words.proofs.Commands.{one_more}
use Rattle.wp_words.proofs.options.plan_command.Goals as goal

pub returns : goal.returns
unfolding plan_command
returns c =
    let one = one_more _ _ _ _ _ c.in_ok-arg.ensures c.bare_command.ensures c.required_option.ensures.rule c.required_option.ensures.local in
    let two = one_more _ _ _ _ _ c.in_ok-arg-2.ensures one c.required_option-2.ensures.rule c.required_option-2.ensures.local in
    let three = one_more _ _ _ _ _ c.in_ok-arg-3.ensures two c.required_option-3.ensures.rule c.required_option-3.ensures.local in
    let four = one_more _ _ _ _ _ c.in_ok-arg-4.ensures three c.required_option-4.ensures.rule c.required_option-4.ensures.local in
    let five = one_more _ _ _ _ _ c.in_ok-arg-5.ensures four c.capacity_option.ensures.rule c.capacity_option.ensures.local in
    let six = one_more _ _ _ _ _ c.in_ok-arg-6.ensures five c.units_option.ensures.rule c.units_option.ensures.local in
    let seven = one_more _ _ _ _ _ c.in_ok-arg-7.ensures six c.budget_option.ensures.rule c.budget_option.ensures.local in
    let eight = one_more _ _ _ _ _ c.in_ok-arg-8.ensures seven c.nodes_option.ensures.rule c.nodes_option.ensures.local in
    let nine = one_more _ _ _ _ _ c.in_ok-arg-9.ensures eight c.workers_option.ensures.rule c.workers_option.ensures.local in
    let ten = one_more _ _ _ _ _ c.in_ok-arg-10.ensures nine c.switch_option.ensures.rule c.switch_option.ensures.local in
    let eleven = one_more _ _ _ _ _ c.in_ok-arg-11.ensures ten c.switch_option-2.ensures.rule c.switch_option-2.ensures.local in
    let twelve = one_more _ _ _ _ _ c.in_ok-arg-12.ensures eleven c.switch_option-3.ensures.rule c.switch_option-3.ensures.local in
    one_more _ _ _ _ _ c.in_ok-command.ensures twelve c.switch_option-4.ensures.rule c.switch_option-4.ensures.local
