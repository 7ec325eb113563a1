use Rattle.std.proofs.Common.{to_z, of_z, ℕ, ℤ, List, rules, sym, subst, refl}
use Rattle.std.specs.Int.{w128}
use mir.Val.{SFits}
use Rattle.std.proofs.lemmas.Int.{to_z-of_z}
use Rattle.wp_lengths.specs.Duals.{AreFeasible}
use Rattle.wp_lp.specs.Parts.{AreSmallOver}
use Rattle.wp_lp.specs.Rounds.{IsEnd, IsNegative}
use Rattle.wp_lp.specs.Runs.{AreSixtieths}
use Rattle.wp_lp.proofs.Bounds.{small_duals}
use Rattle.wp_lp.proofs.Covered.{pool_halt_ends}
use Rattle.wp_lp.proofs.Pools.{run_goes_on}
use Rattle.wp_lp.proofs.round.round.Goals as goal

pub rounded_down-requires-clause-duals : goal.rounded_down-requires-clause-duals
rounded_down-requires-clause-duals g c =
    let pair = c.in_ok-pair.pair in
    let fits : SFits w128 pair.denominator = search rules in
    let small = small_duals c.args.pool.now pair.weights.items pair.duals.items pair.denominator c.in_ok-pair.ensures.answer c.requires.short.short in
    subst (λ (ds : List ℤ). AreSmallOver ds (to_z w128 (of_z w128 pair.denominator))) (sym c.as_slice.ensures.value)
    (subst (AreSmallOver pair.duals.items) (sym (to_z-of_z w128 pair.denominator fits)) small)

pub narrow_root-requires-clause-feasible : goal.narrow_root-requires-clause-feasible
narrow_root-requires-clause-feasible g c =
    subst (AreFeasible c.args.start.now.given.wave.now c.args.start.now.given.pairs.now) (sym c.as_slice-in-None.ensures.value)
    (rw c.in-None.is at c.in_ok-priced.ensures.none)

pub returns-clause-onward : goal.returns-clause-onward
returns-clause-onward g c = λ made before.
    let negative : IsNegative c.args.start.now.given.wave.now c.args.start.now.given.pairs.now c.in_ok-sixtieths.sixtieths.items c.in-Some.batch =
    rw c.in-Some.is at c.in_ok-priced.ensures.some in
    let pair = c.in_ok-pair.pair in
    let fits : SFits w128 pair.denominator = search rules in
    let same = to_z-of_z w128 pair.denominator fits in
    let rounded = subst (λ (q : ℤ). AreSixtieths pair.duals.items q c.in_ok-sixtieths.sixtieths.items) same
    (subst (λ (ds : List ℤ). AreSixtieths ds (to_z w128 (of_z w128 pair.denominator)) c.in_ok-sixtieths.sixtieths.items) c.as_slice.ensures.value
    c.in_ok-sixtieths.ensures.are) in
    run_goes_on c.args.start.now.given.wave.now c.args.start.now.given.pairs.now made c.in-Some.batch c.batch_length.result c.args.pool.now c.add.new.self
    before (record {
      pool = c.args.pool.now;
      pool_of = record { orders = c.requires.short.is_pool.orders; are = refl; lengths = c.requires.short.is_pool.lengths };
      weights = pair.weights.items;
      duals = pair.duals.items;
      denominator = pair.denominator;
      answer = c.in_ok-pair.ensures.answer;
      sixtieths = c.in_ok-sixtieths.sixtieths.items;
      rounded = rounded;
      permitted = negative.permitted;
      slack = negative.slack;
      is_slack = negative.is_slack;
      negative = negative.negative;
    }) c.batch_length.ensures.is c.batch_length.ensures.small c.in_ok-add-in-Some.ensures.added

pub returns-in_err-pair-clause-halt : goal.returns-in_err-pair-clause-halt
returns-in_err-pair-clause-halt g c =
    let ends : (rounds : ℕ) → IsEnd c.args.start.now.given.wave.now c.args.start.now.given.pairs.now rounds c.in_err-pair.field-0.0 =
    λ rounds. pool_halt_ends c.args.start.now.given.wave.now c.args.start.now.given.pairs.now c.args.pool.now c.requires.short.is_pool c.requires.covered rounds
    c.in_err-pair.field-0.0 c.in_err-pair.ensures.halt in
    search rules
