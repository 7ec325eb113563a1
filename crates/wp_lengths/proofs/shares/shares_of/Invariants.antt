use Rattle.std.proofs.Common.{◌*◌, ◌^◌, ◌≤◌}
use Rattle.wp_lengths.proofs.ShareSums.{AreSharesBelow}
use Rattle.wp_lengths.proofs.shares.shares_of.Given as goal

abbrev pub invariant-loop-order : goal.invariant-loop-order
invariant-loop-order l = record { below : AreSharesBelow l.wave l.capacity.most l.order l.total; small : l.total ≤ l.order * 2 ^ 34 }
