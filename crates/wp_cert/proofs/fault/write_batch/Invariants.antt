use Rattle.std.proofs.Common.{ℕ, ◌<◌, List}
use Rattle.std.specs.Fmt.{HasWritten, IsPlainFormatter}
use Rattle.std.specs.List.{flat_map}
use Rattle.wp_model.specs.Journal.{number_after_space}
use Rattle.wp_pairs.specs.Batches.{IsBatch}
use Rattle.wp_cert.proofs.OrdersBelow.{AreBelow}
use Rattle.wp_cert.proofs.fault.write_batch.Given as goal

-- the orders so far were written
abbrev pub invariant-loop-order : goal.invariant-loop-order
invariant-loop-order g l = (orders : List ℕ) × AreBelow l.fn.batch l.order-counter orders × (0 < l.order-counter → IsBatch l.fn.batch)
    × (IsPlainFormatter l.fn.f → HasWritten g.W.Write.write_str_gives l.fn.f (flat_map number_after_space orders) l.f)
