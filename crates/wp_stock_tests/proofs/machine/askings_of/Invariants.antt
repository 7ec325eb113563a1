use Rattle.std.proofs.Common.{All, IsTrue}
use Rattle.wp_model.specs.Plain.{is_plain}
use Rattle.wp_machine.specs.declared.asking.Asking.{Asking}
use Rattle.wp_stock_tests.proofs.machine.askings_of.Given as goal

-- what is asked for so far is plain
abbrev pub invariant-loop-command : goal.invariant-loop-command
invariant-loop-command l = All (λ (asking : Asking). IsTrue (is_plain asking.command)) l.askings.items
