use Rattle.std.proofs.Common.{◌≡◌, All, take}
use Rattle.wp_cuts.specs.Cuts.{IsRankCut}
use Rattle.wp_cert.proofs.cuts.all_cuts.Given as goal

abbrev pub invariant-loop-cut : goal.invariant-loop-cut
invariant-loop-cut l = record {
  value : l.cuts.items ≡ take l.cut-index l.fn.written;
  all : All (IsRankCut l.fn.count) (take l.cut-index l.fn.written);
}
