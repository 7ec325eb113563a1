use Rattle.std.proofs.Common.{arith}
use Rattle.wp_model.specs.Book.{hold_units_where}
use Rattle.wp_book.specs.Room.{place_of}
use Rattle.wp_book.proofs.OrderedHolds.{all_between, map-written, sum_by-written}
use Rattle.wp_book.proofs.sorted.take_found.Goals as goal

pub returns-clause-left : goal.returns-clause-left
returns-clause-left c = omega (
  arith,
  c.take_from_holds.ensures.left,
  all_between c.args.order c.args.row c.places-start.result.0 c.places-start.result.1 c.args.holds.now c.places-start.ensures,
)

pub returns-clause-places : goal.returns-clause-places
returns-clause-places c =
    map-written place_of c.args.holds.now c.take_from_holds.new.holds c.places-start.result.0 c.places-start.result.1 c.take_from_holds.ensures.places

pub returns-clause-taken : goal.returns-clause-taken
returns-clause-taken c = λ passes wave.
    omega (
      arith,
      c.take_from_holds.ensures.taken passes wave,
      sum_by-written (hold_units_where passes wave) c.args.holds.now c.take_from_holds.new.holds c.places-start.result.0 c.places-start.result.1
          c.places-start.ensures.upto,
    )
