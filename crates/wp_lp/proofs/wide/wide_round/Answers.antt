use Rattle.std.proofs.Common.{to_z, of_z, ℕ, ℤ, List, rules, sym, subst}
use Rattle.std.specs.Int.{w128}
use mir.Val.{SFits}
use Rattle.std.proofs.lemmas.Int.{to_z-of_z}
use Rattle.wp_lp.specs.Knowns.{AreSound}
use Rattle.wp_lp.specs.Parts.{AreSmallOver}
use Rattle.wp_lp.specs.Rounds.{IsEnd}
use Rattle.wp_lp.proofs.Bounds.{small_duals}
use Rattle.wp_lp.proofs.Covered.{pool_halt_ends}
use Rattle.wp_lp.proofs.Within.{either_has}
use Rattle.wp_lp.proofs.wide.wide_round.Goals as goal

pub rounded_down-requires-clause-duals : goal.rounded_down-requires-clause-duals
rounded_down-requires-clause-duals g c =
    let pair = c.in_ok-pair.pair in
    let fits : SFits w128 pair.denominator = search rules in
    let small = small_duals c.args.pool.now pair.weights.items pair.duals.items pair.denominator c.in_ok-pair.ensures.answer c.requires.pool.short.short in
    subst (λ (ds : List ℤ). AreSmallOver ds (to_z w128 (of_z w128 pair.denominator))) (sym c.as_slice-2.ensures.value)
    (subst (AreSmallOver pair.duals.items) (sym (to_z-of_z w128 pair.denominator fits)) small)

pub returns-clause-sound : goal.returns-clause-sound
returns-clause-sound g c =
    either_has (AreSound c.args.start.now.given.wave.now c.args.start.now.given.pairs.now) c.args.best.now.items c.in_ok-duals.duals.items
    c.keep_better.new.best.items c.keep_better.ensures.either c.requires.sound c.in_ok-duals.ensures.sound

pub returns-in_err-pair-clause-halt : goal.returns-in_err-pair-clause-halt
returns-in_err-pair-clause-halt g c =
    let ends : (rounds : ℕ) → IsEnd c.args.start.now.given.wave.now c.args.start.now.given.pairs.now rounds c.in_err-pair.field-0.0 =
    λ rounds. pool_halt_ends c.args.start.now.given.wave.now c.args.start.now.given.pairs.now c.args.pool.now c.requires.pool.short.is_pool
    c.requires.pool.covered rounds c.in_err-pair.field-0.0 c.in_err-pair.ensures.halt in
    search rules
