use Rattle.std.proofs.Common.{◌≡◌, ◌+◌, ◌*◌, ◌^◌, ◌≤◌, take}
use Rattle.std.specs.Prelude.{sum}
use Rattle.wp_cert.proofs.paying.all_charged.Given as goal

abbrev pub invariant-loop-order : goal.invariant-loop-order
invariant-loop-order l = record {
  so_far : l.total ≡ sum (take l.order l.duals) + l.fn.batches * l.fn.count;
  small : l.total ≤ (64 + l.order) * 2 ^ 64;
}
