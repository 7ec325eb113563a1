use Rattle.std.proofs.Common.{◌≡◌, inl, inr, ℤ, List, to_z, of_z, sym, subst, arith, rules, ◌∙◌}
use Rattle.std.specs.Int.{w128}
use mir.Val.{SFits}
use Rattle.std.proofs.lemmas.Int.{ints, to_z-of_z}
use Rattle.wp_master.specs.Pairs.{AreOfRun}
use Rattle.wp_master.specs.Pools.{ColumnPool}
use Rattle.wp_lp.specs.Rounds.{IsPoolHalt, IsUnscalable}
use Rattle.wp_lp.specs.Runs.{most_turns}
use Rattle.wp_lp.specs.declared.halt.Halt.{Halt}
use Rattle.wp_lp.proofs.round.solved.Goals as goal

unscalable_ends : (pool : ColumnPool) (weights : List ℤ) (q shown : ℤ) (answer : Halt) → shown ≡ q → AreOfRun pool most_turns weights q
    → IsUnscalable shown answer → IsPoolHalt pool answer
unscalable_ends pool weights q shown answer same run is = subst (IsPoolHalt pool) (sym is.0) (
  inr (record {
    made = run.1.0;
    table = run.0;
    run = run.1.2;
    left_is = inl (same ∙ run.2.same);
    least = omega (arith, ints);
    most = omega (arith, ints);
  }),
  is.1,
)

pub returns-in_err-scalable-clause-halt : goal.returns-in_err-scalable-clause-halt
returns-in_err-scalable-clause-halt c =
    let q = c.in_ok-pair.pair.denominator in
    let fits : SFits w128 q = search rules in
    let halt = unscalable_ends c.args.pool.now c.in_ok-pair.pair.weights.items q (to_z w128 (of_z w128 q)) c.in_err-scalable.field-0.0
    (to_z-of_z w128 q fits) c.in_ok-pair.ensures.run c.in_err-scalable.ensures.wide in
    search rules
