use Rattle.std.proofs.Common.{◌≡◌, ◌≤◌, ◌+◌, ◌-◌, ℕ, drop, map, if◌then◌else◌}
use Rattle.std.specs.List.{sum_by}
use Rattle.wp_model.specs.Book.{Where, hold_units_where, units_for}
use Rattle.wp_book.specs.Room.{place_of}
use Rattle.wp_book.proofs.sorted.take_from_holds.Given as goal

abbrev pub invariant-loop-hold : goal.invariant-loop-hold
invariant-loop-hold l = record {
  most : l.left ≤ l.units;
  rest : units_for (drop l.hold-index l.holds) l.order l.row ≤ units_for l.fn.holds l.order l.row;
  left : l.left ≡ l.units - (units_for l.fn.holds l.order l.row - units_for (drop l.hold-index l.holds) l.order l.row);
  places : map place_of l.holds ≡ map place_of l.fn.holds;
  taken : (passes : Where) (wave : ℕ) → sum_by (hold_units_where passes wave) l.holds + (if passes wave l.order l.row then l.units - l.left else 0) ≡ sum_by
      (hold_units_where passes wave) l.fn.holds;
}
