use Rattle.std.proofs.Common.{◌∙◌}
use Rattle.wp_layout.proofs.ReadBack.{compact-layout_value, layout_said-read, plain-layout_value, shallow-layout_value, value_said-layout_value}
use Rattle.wp_layout.proofs.printing.print_layout.Goals as goal

pub returns-clause-text : goal.returns-clause-text
returns-clause-text c =
    let text = c.in_ok-to_vec.ensures.text in
    (rw c.in_ok-value.ensures.value at text) (plain-layout_value c.args.layout.now) ∙ compact-layout_value c.args.layout.now

pub returns-clause-reads_back : goal.returns-clause-reads_back
returns-clause-reads_back c =
    let read = c.in_ok-to_vec.ensures.reads_back in
    layout_said-read _ _ c.in_ok-to_vec.ensures.utf8 ((rw c.in_ok-value.ensures.value at read) (shallow-layout_value c.args.layout.now))
    ∙ value_said-layout_value c.args.layout.now c.in_ok-value.ensures.valid
