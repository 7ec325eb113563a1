use Rattle.std.proofs.Common.{◌≡◌, ℕ, suc, ◌+◌, ◌-◌, ◌∙◌, arith, get_or, length-set, None, set, subst, sym}
use Rattle.wp_classes.specs.declared.lengths.OnwardLengths.{OnwardLengths}
use Rattle.wp_classes.specs.Choices.{block_of, route_of}
use Rattle.wp_classes.specs.Onward.{AreOnward, Onward}
use Rattle.wp_classes.specs.Steps.{IsBestStep}
use Rattle.wp_classes.proofs.Progress.{Progress, arrays_alike, progress_done, progress_first, progress_on}
use Rattle.wp_classes.proofs.Small.{lengths_within, ways_within}
use Rattle.wp_classes.proofs.Shortest.{shortest}
use Rattle.wp_classes.proofs.tour.tour_choice.Goals as goal

abbrev nothing : OnwardLengths
nothing = record { uu1 = None; e01 = None; ze1 = None; ee1 = None; ee2 = None; z00 = None; z01 = None }

pub best_way-first-requires-clause-ways : goal.best_way-first-requires-clause-ways
best_way-first-requires-clause-ways c = λ way. ways_within _ _ _ _ c.onward_table-table.ensures.valid c.aisle_ways.ensures.value way

pub best_way-first-requires-clause-after : goal.best_way-first-requires-clause-after
best_way-first-requires-clause-after c = λ class.
    let valid = c.onward_table-table.ensures.valid in
    lengths_within _ _ _ _ _ valid (omega (arith, valid.aisles)) (c.onward_table-table.ensures.each 1 nothing (omega arith, valid.aisles.0)) class

pub loop-left-init : goal.loop-left-init
loop-left-init c =
    let valid = c.onward_table-table.ensures.valid in
    record {
      ways_whole = length-set _ 0 _ ∙ c.blank_ways-ways.ensures;
      crosses_whole = c.blank_crosses-crosses.ensures;
      progress = progress_first _ _ _ _ _ _ _ _ (c.onward_table-table.ensures.each 1 nothing (omega arith, valid.aisles.0)) c.aisle_ways.ensures.value
          c.best_way-first.ensures (sym c.after_way.ensures ∙ c.unwrap-class.ensures) (omega (arith, c.blank_ways-ways.ensures));
    }

pub best_step-step-requires-clause-after : goal.best_step-step-requires-clause-after
best_step-step-requires-clause-after c =
    let back : c.loop-left.left + 1 - 1 ≡ c.loop-left.left = omega arith in
    subst (λ (i : ℕ). AreOnward (block_of c.args.layout.now c.args.picks.now.points) (c.args.layout.now.aisles - (c.loop-left.left + 1))
    (c.loop-left.left + 1) (get_or c.onward_table-table.result i nothing)) back
    (c.onward_table-table.ensures.each (c.loop-left.left + 1) nothing (omega arith, omega arith))

pub best_step-step-requires-clause-goes_on : goal.best_step-step-requires-clause-goes_on
best_step-step-requires-clause-goes_on c =
    let back : c.loop-left.left ≡ c.loop-left.left + 1 - 1 = omega arith in
    let on = c.loop-left.invariant.progress in (
      on.rest,
      subst (λ (a : ℕ). Onward (block_of c.args.layout.now c.args.picks.now.points) (c.args.layout.now.aisles - a) a c.loop-left.class on.rest) back
          on.least_on.0,
    )

pub loop-left-preserved : goal.loop-left-preserved
loop-left-preserved c =
    let left = c.loop-left.left in
    let block = block_of c.args.layout.now c.args.picks.now.points in
    let all = c.args.layout.now.aisles in
    let more : left + 1 ≡ suc left = omega arith in
    let back : left + 1 - 1 ≡ left = omega arith in
    let step = c.best_step-step.result in
    let valid = c.onward_table-table.ensures.valid in
    let after = get_or c.onward_table-table.result left nothing in
    let are : AreOnward block (all - suc left) (suc left) after =
    subst (λ (a : ℕ). AreOnward block (all - a) a after) more
    (subst (λ (i : ℕ). AreOnward block (all - (left + 1)) (left + 1) (get_or c.onward_table-table.result i nothing)) back
    (c.onward_table-table.ensures.each (left + 1) nothing (omega arith, omega arith))) in
    let best : IsBestStep block (all - left) (suc left) after c.loop-left.class step =
    subst (λ (a : ℕ). IsBestStep block (all - left) a after c.loop-left.class step) more
    (subst (λ (a : ℕ). IsBestStep block (all - a) (left + 1) after c.loop-left.class step) back c.best_step-step.ensures) in
    let alike = arrays_alike c.loop-left.ways c.loop-left.crosses left step.cross step.way (omega arith)
    (omega (arith, c.loop-left.invariant.ways_whole, valid.aisles)) (omega (arith, c.loop-left.invariant.crosses_whole, valid.aisles)) in
    record {
      ways_whole = length-set _ left _ ∙ c.loop-left.invariant.ways_whole;
      crosses_whole = length-set _ (left - 1) _ ∙ c.loop-left.invariant.crosses_whole;
      progress = subst (λ (a : ℕ). Progress block all a (route_of
          (record { ways = set c.loop-left.ways left step.way; crosses = set c.loop-left.crosses (left - 1) step.cross })) step.class) (sym more)
          (progress_on block all left _ _ c.loop-left.class after step (omega arith) (omega arith) c.loop-left.invariant.progress are best alike);
    }

pub returns : goal.returns
returns c =
    let valid = c.onward_table-table.ensures.valid in
    let upto = c.loop-left.auto.left-end (omega (arith, valid.aisles, c.aisles-left-end.ensures.value)) in
    let all : c.loop-left.left ≡ c.args.layout.now.aisles = omega (arith, valid.aisles, c.aisles-left-end.ensures.value, c.loop-left-test.false, upto) in
    let done = progress_done _ _ c.loop-left.left c.loop-left.ways c.loop-left.crosses c.loop-left.class _ (omega arith) (omega (arith, valid.aisles, all))
    (omega (arith, c.loop-left.invariant.ways_whole, valid.aisles)) (omega (arith, c.loop-left.invariant.crosses_whole, valid.aisles))
    (rw c.aisles.ensures.value at c.of.ensures.ways) (rw c.aisles.ensures.value at c.of.ensures.crosses) c.loop-left.invariant.progress in
    (done.0, done.1, shortest _ _ _ c.aisle_ways.ensures.slots done.2)
