use Rattle.wp_words.specs.Options.{make_command}
use Rattle.wp_words.proofs.Commands.{one_more}
use Rattle.wp_words.proofs.options.make_command.Goals as goal

pub returns : goal.returns
unfolding make_command
returns c =
    let one = one_more _ _ _ _ _ c.in_ok-arg.ensures c.bare_command.ensures c.number_option.ensures.rule c.number_option.ensures.local in
    let two = one_more _ _ _ _ _ c.in_ok-arg-2.ensures one c.count_option.ensures.rule c.count_option.ensures.local in
    let three = one_more _ _ _ _ _ c.in_ok-arg-3.ensures two c.count_option-2.ensures.rule c.count_option-2.ensures.local in
    let four = one_more _ _ _ _ _ c.in_ok-arg-4.ensures three c.count_option-3.ensures.rule c.count_option-3.ensures.local in
    let five = one_more _ _ _ _ _ c.in_ok-arg-5.ensures four c.count_option-4.ensures.rule c.count_option-4.ensures.local in
    let six = one_more _ _ _ _ _ c.in_ok-arg-6.ensures five c.capacity_option.ensures.rule c.capacity_option.ensures.local in
    let seven = one_more _ _ _ _ _ c.in_ok-arg-7.ensures six c.budget_option.ensures.rule c.budget_option.ensures.local in
    let eight = one_more _ _ _ _ _ c.in_ok-arg-8.ensures seven c.nodes_option.ensures.rule c.nodes_option.ensures.local in
    one_more _ _ _ _ _ c.in_ok-command.ensures eight c.workers_option.ensures.rule c.workers_option.ensures.local
