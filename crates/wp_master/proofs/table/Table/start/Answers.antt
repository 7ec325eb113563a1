use Rattle.std.proofs.Common.{ap, refl, ◌+◌, ℕ}
use Rattle.wp_master.proofs.Stored.{stored_spots, stored_starts}
use Rattle.wp_master.proofs.table.Table.start.Goals as goal

pub invariant_of-result : goal.invariant_of-result
invariant_of-result c =
    let made = c.in_ok-stored.ensures in
    let listed = c.in_ok-spots.ensures in
    stored_spots c.args.pool.now c.in_ok-stored.stored c.in_ok-spots.spots.items (record {
      table = made.table;
      rows = made.rows;
      width = made.width;
      denominator = made.denominator;
      each = made.each;
      count = listed.count;
      spots_are = listed.each;
    }) _ _ _ refl refl (ap (λ (n : ℕ). n + 1) c.orders.ensures.value)

pub returns : goal.returns
returns c =
    let made = c.in_ok-stored.ensures in
    let listed = c.in_ok-spots.ensures in
    stored_starts c.args.pool.now c.in_ok-stored.stored c.in_ok-spots.spots.items (record {
      table = made.table;
      rows = made.rows;
      width = made.width;
      denominator = made.denominator;
      each = made.each;
      count = listed.count;
      spots_are = listed.each;
    })
