use Rattle.std.proofs.Common.{◌≡◌, ℕ, arith, refl, rules, subst}
use Rattle.std.proofs.lemmas.Result.{IfOk-weaker}
use Rattle.wp_lp.specs.Runs.{PricedRun, batches_of}
use Rattle.wp_lp.proofs.Covered.{run_covers}
use Rattle.wp_lp.proofs.Within.{root_from}
use Rattle.wp_lp.proofs.bracket.searched.Goals as goal

pub returns-in_err-root-clause-halt : goal.returns-in_err-root-clause-halt
returns-in_err-root-clause-halt g c =
    let halt = c.in_err-root.ensures.halt c.args.rounds in
    search rules

pub returns-clause-root : goal.returns-clause-root
returns-clause-root g c =
    let wave = c.args.start.now.given.wave.now in
    let pairing = c.args.start.now.given.pairs.now in
    let all : c.loop-made._made ≡ c.args.rounds = omega (arith, c.loop-made.auto._made-end, c.loop-made-test.false) in
    IfOk-weaker c.widened.result _ _ (λ root from. root_from wave pairing c.args.rounds c.args.start.now.cost _ _ root from (
      refl,
      (
        batches_of c.loop-made.pool,
        subst (λ (made : ℕ). PricedRun wave pairing made (batches_of c.loop-made.pool)) all c.loop-made.invariant.run,
      ),
    )) c.widened.ensures.root

pub round-requires-clause-covered : goal.round-requires-clause-covered
round-requires-clause-covered g c κs within =
    run_covers c.args.start.now.given.wave.now c.args.start.now.given.pairs.now c.loop-made._made c.loop-made.pool c.args.start.now.given.as_many
    c.loop-made.invariant

pub widened-requires-clause-pool : goal.widened-requires-clause-pool
widened-requires-clause-pool g c κs within = record {
  short = c.loop-made.invariant.is_pool;
  covered = run_covers c.args.start.now.given.wave.now c.args.start.now.given.pairs.now c.loop-made._made c.loop-made.pool c.args.start.now.given.as_many
      c.loop-made.invariant;
}
