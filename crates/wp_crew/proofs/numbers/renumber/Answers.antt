use Rattle.std.proofs.Common.{slice_index, get_or, arith}
use Rattle.std.proofs.lemmas.List.{get_or_default}
use Rattle.std.proofs.lemmas.List.Edits.{map_over_more}
use Rattle.wp_crew.proofs.numbers.renumber.Goals as goal

pub loop-picker-preserved : goal.loop-picker-preserved
loop-picker-preserved c =
    let here = get_or c.loop-picker.picker_of c.loop-picker.picker-index 0 in
    map_over_more (slice_index c.args.number_of.now) c.args.picker_of.now c.loop-picker.picker_of c.loop-picker.picker-index here
    c.loop-picker-test.true c.loop-picker.invariant
    (get_or_default c.loop-picker.picker_of c.loop-picker.picker-index 0 here (omega (arith, c.loop-picker.auto.picker_of)))
