use Rattle.std.proofs.Common.{◌≡◌, ◌++◌, take}
use Rattle.wp_price.proofs.marking.append.Given as goal

abbrev pub invariant-loop-place : goal.invariant-loop-place
invariant-loop-place l = l.marks ≡ l.initial.marks ++ take l.place l.more
