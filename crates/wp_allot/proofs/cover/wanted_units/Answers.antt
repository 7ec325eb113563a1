use Rattle.std.proofs.Common.{arith}
use Rattle.std.proofs.lemmas.List.Sums.{sum_by_more_le_part}
use Rattle.wp_allot.proofs.WantSums.{units_of-le}
use Rattle.wp_allot.specs.Wants.{units_of}
use Rattle.wp_allot.specs.declared.want.Want.{Want}
use Rattle.wp_allot.proofs.cover.wanted_units.Goals as goal

abbrev none : Want
none = record { order = 0; article = 0; quantity = 0 }

pub overflow_add-units : goal.overflow_add-units
overflow_add-units c =
    let part = sum_by_more_le_part (units_of c.args.article) (λ (w : Want). w.quantity) c.args.wants.now c.loop-want.want-index none c.loop-want-test.true
    (units_of-le c.args.article) in
    omega (arith, part)
