use Rattle.std.proofs.Common.{◌≡◌, ◌*◌, ◌≤◌, take}
use Rattle.std.specs.Prelude.{sum}
use Rattle.wp_cuts.proofs.cut.RankCut.all_parts.Given as goal

abbrev pub invariant-loop-place : goal.invariant-loop-place
invariant-loop-place l = record { so_far : l.total ≡ sum (take l.place l.self.parts); small : l.total ≤ l.place * 8 }
