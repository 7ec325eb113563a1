use Rattle.std.proofs.Common.{arith, rules}
use Rattle.std.proofs.lemmas.List.Sorted.{IsPartitionPoint-from_clause}
use Rattle.wp_book.specs.Room.{is_before}
use Rattle.wp_book.proofs.OrderedHolds.{parted}
use Rattle.wp_book.proofs.sorted.first_from.Goals as goal

pub returns : goal.returns
returns c =
    let point = IsPartitionPoint-from_clause (is_before c.args.order c.args.row) c.args.holds.now c.partition_point.result c.partition_point.ensures.partitioned
    (parted c.args.order c.args.row c.args.holds.now c.requires) (λ a r q k. search rules) in
    record {
      within = c.partition_point.ensures.bound;
      before = λ k d below. point.0 k d (omega arith) below;
      after = λ k d from within. point.1 k d from within;
    }
