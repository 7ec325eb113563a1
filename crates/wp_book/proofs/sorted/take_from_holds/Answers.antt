use Rattle.std.proofs.Common.{◌∙◌, arith}
use Rattle.std.proofs.Math.Seq.{map-set_same}
use Rattle.wp_model.specs.Book.{hold_for, hold_units_where}
use Rattle.wp_book.specs.Room.{place_of}
use Rattle.wp_book.proofs.HoldSums.{sums_are, taken_so_far}
use Rattle.wp_book.proofs.sorted.take_from_holds.Goals as goal

pub loop-hold-preserved : goal.loop-hold-preserved
loop-hold-preserved c =
    let i = c.loop-hold.hold-index in
    let own = sums_are (hold_for c.args.order c.args.row) c.loop-hold.holds i (record { order = 0; row = 0; quantity = 0 }) c.take_from_hold-left.new.hold
    (omega arith) in
    record {
      most = omega arith;
      rest = omega (arith, own.rest);
      left = omega (arith, own.rest);
      places = map-set_same place_of c.loop-hold.holds i c.take_from_hold-left.new.hold (record { order = 0; row = 0; quantity = 0 })
          c.take_from_hold-left.ensures.place
          ∙ c.loop-hold.invariant.places;
      taken = λ passes wave.
          let all = sums_are (hold_units_where passes wave) c.loop-hold.holds i (record { order = 0; row = 0; quantity = 0 }) c.take_from_hold-left.new.hold
          (omega arith) in
          omega (
            arith,
            all.all,
            c.take_from_hold-left.ensures.taken passes wave,
            c.loop-hold.invariant.taken passes wave,
            taken_so_far (passes wave c.args.order c.args.row) c.args.units c.loop-hold.left c.take_from_hold-left.result c.loop-hold.invariant.most
                (omega arith),
          );
    }
