use Rattle.std.proofs.Common.{◌<◌, ◌≤◌, ℕ, get_or}
use Rattle.wp_allot.specs.declared.want.Want.{Want}
use Rattle.wp_stock_tests.proofs.allot.are_moderate.Given as goal

abbrev pub invariant-loop-want : goal.invariant-loop-want
invariant-loop-want l = (k : ℕ) (d : Want) → k < l.want-index → (0 < (get_or l.wants k d).quantity) × ((get_or l.wants k d).quantity ≤ 1000000)
