use Rattle.std.proofs.Common.{ℕ, subst}
use Rattle.wp_book.specs.Room.{StandBetween}
use Rattle.wp_book.proofs.OrderedHolds.{found_between}
use Rattle.wp_book.proofs.sorted.places.Goals as goal

pub returns : goal.returns
returns c =
    subst (λ (row : ℕ). StandBetween c.args.order row c.args.holds.now c.first_from-start.result c.first_from-end.result) c.from-row.ensures
    (found_between c.args.order c.from-row.result c.first_from-start.result c.first_from-end.result c.args.holds.now c.first_from-start.ensures
    c.first_from-end.ensures)
