use Rattle.std.proofs.Common.{◌≡◌, ◌++◌}
use Rattle.std.specs.Vec.Iter.{into_iter_items, into_iter_len}
use Rattle.waves.proofs.all_of.Given as goal

-- the words so far, and then those that are left, are all
abbrev pub invariant-loop-word : goal.invariant-loop-word
invariant-loop-word l = l.words.items ++ into_iter_items l.left ≡ into_iter_items l.fn.given

-- so many are left
abbrev pub decreases-loop-word : goal.decreases-loop-word
decreases-loop-word l = into_iter_len l.left
