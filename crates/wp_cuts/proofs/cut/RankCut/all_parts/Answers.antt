use Rattle.std.proofs.Common.{◌<◌, ◌∙◌, arith, length}
use Rattle.std.proofs.lemmas.List.{get_or_default}
use Rattle.wp_cuts.proofs.KeptParts.{parts_few}
use Rattle.wp_cuts.proofs.cut.RankCut.all_parts.Goals as goal

pub overflow_add-total : goal.overflow_add-total
overflow_add-total c =
    let parts = c.self.inside.parts.items in
    let low : c.loop-place.place < length parts = omega (arith, c.loop-place-test.true, c.len-place-end.ensures) in
    let at = c.index.ensures ∙ get_or_default parts c.loop-place.place c.index.result.now 0 low in
    let small = (c.self.invariant.0.parts c.loop-place.place 0 low).1 in
    omega (arith, c.loop-place.invariant.small, low, at, small, c.self.invariant.0.high, parts_few _ c.self.invariant.0)

pub returns-clause-small : goal.returns-clause-small
returns-clause-small c = omega (
  arith,
  c.loop-place.invariant.small,
  c.loop-place.auto.place-end,
  c.len-place-end.ensures,
  parts_few _ c.self.invariant.0,
)
