use Rattle.std.proofs.Common.{◌≡◌, ◌*◌, ◌≤◌}
use Rattle.std.specs.Prelude.{sum_by}
use Rattle.wp_cuts.specs.Cuts.{cut_part}
use Rattle.wp_cuts.proofs.KeptParts.{capped}
use Rattle.wp_cuts.proofs.cut.RankCut.parts_of.Given as goal

abbrev pub invariant-loop-part : goal.invariant-loop-part
invariant-loop-part l = record { so_far : l.total ≡ sum_by (capped (cut_part l.self) l.part) l.batch; small : l.total ≤ l.part * 512 }
