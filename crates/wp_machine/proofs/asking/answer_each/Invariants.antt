use Rattle.std.proofs.Common.{◌≡◌, take}
use Rattle.wp_machine.specs.Machine.{asked_all}
use Rattle.wp_machine.proofs.asking.answer_each.Given as goal

-- what was asked so far is answered
abbrev pub invariant-loop-asking : goal.invariant-loop-asking
invariant-loop-asking l = l.machine ≡ asked_all l.fn.machine (take l.asking-index l.askings)
