use Rattle.std.proofs.Common.{◌∙◌, ap, sym, get_or, arith}
use Rattle.std.proofs.lemmas.List.Sums.{sum_by_more_le_part}
use Rattle.std.proofs.lemmas.Option.{same_Some, slice_get-get_or, slice_get_within}
use Rattle.wp_allot.proofs.GatheredWants.{all_counted, none_counted, one_counted}
use Rattle.wp_allot.proofs.OrderIntervals.{units_of-own}
use Rattle.wp_allot.proofs.WantSums.{units_of-le}
use Rattle.wp_allot.specs.Wants.{units_of}
use Rattle.wp_allot.specs.declared.want.Want.{Want}
use Rattle.wp_allot.proofs.gathered.wants_at.Goals as goal

abbrev none : Want
none = record { order = 0; article = 0; quantity = 0 }

pub loop-end-init : goal.loop-end-init
loop-end-init c =
    none_counted c.args.wants.now c.args.start _ c.requires.border (slice_get-get_or c.args.wants.now c.args.start none c.requires.within)

pub overflow_add-units : goal.overflow_add-units
overflow_add-units c =
    let is = c.loop-end.invariant in
    let part = sum_by_more_le_part (units_of is.first.article) (λ (w : Want). w.quantity) c.args.wants.now c.loop-end.end none c.loop-end-test.true
    (units_of-le is.first.article) in
    let own = units_of-own is.first.article (get_or c.args.wants.now c.loop-end.end none) (c.if-wants-end.true ∙ is.article) in
    omega (arith, part, is.units, own, c.requires.gathered.turn.small)

pub loop-end-preserved : goal.loop-end-preserved
loop-end-preserved c =
    one_counted c.args.wants.now c.args.start _ c.loop-end.units c.loop-end.end _ c.loop-end.invariant
    (slice_get-get_or c.args.wants.now c.loop-end.end none c.loop-end-test.true) c.if-wants-end.true

pub returns-else-wants-end : goal.returns-else-wants-end
returns-else-wants-end c =
    let there = slice_get-get_or c.args.wants.now c.loop-end.end none c.loop-end-test.true in
    all_counted c.args.wants.now c.args.start _ c.loop-end.units c.loop-end.end c.requires.gathered c.requires.border c.loop-end.invariant
    (λ v at e. c.if-wants-end.false (ap (λ (w : Want). w.article) (same_Some _ v (sym there ∙ at)) ∙ e))

pub returns-after-loop-end : goal.returns-after-loop-end
returns-after-loop-end c =
    all_counted c.args.wants.now c.args.start _ c.loop-end.units c.loop-end.end c.requires.gathered c.requires.border c.loop-end.invariant
    (λ v at e. absurd (omega (arith, slice_get_within c.args.wants.now c.loop-end.end v at)))
