use Rattle.std.proofs.Common.{◌≡◌, ◌<◌, ◌≤◌, ℕ}
use Rattle.wp_cuts.specs.Cuts.{cut_part}
use Rattle.wp_cuts.proofs.cut.RankCut.part_of.Given as goal

abbrev pub invariant-loop-part : goal.invariant-loop-part
invariant-loop-part l = (part : ℕ) → 1 ≤ part → part < l.part → cut_part l.self l.order ≡ part → ⊥
