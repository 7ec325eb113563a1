use Rattle.std.proofs.Common.{◌≤◌, ℕ, List, sym, subst}
use Rattle.std.specs.Prelude.{sum}
use Rattle.std.proofs.lemmas.Result.{IfOk-weaker}
use Rattle.wp_lp.specs.Knowns.{IsBracketFrom}
use Rattle.wp_lp.specs.declared.root.RootState.TheVariants.{Rounds}
use Rattle.wp_lp.proofs.Within.{from_less, narrow_in}
use Rattle.wp_lp.proofs.wide.widened.Goals as goal

pub returns-in-Some-clause-root : goal.returns-in-Some-clause-root
returns-in-Some-clause-root g c =
    narrow_in c.args.start.now.given.wave.now c.args.start.now.given.pairs.now c.args.start.now.cost (sum c.args.start.now.duals.now)
    (sum c.loop-made.best.items) (Rounds c.args.rounds) c.in-Some.root c.loop-made.invariant.no_less (rw c.in-Some.is at c.in_ok-root.ensures.narrow)

pub returns-clause-root : goal.returns-clause-root
returns-clause-root g c =
    let wave = c.args.start.now.given.wave.now in
    let pairing = c.args.start.now.given.pairs.now in
    let cost = c.args.start.now.cost in
    let less = sum c.args.start.now.duals.now in
    let more = sum c.as_slice.result.now in
    let state = Rounds c.args.rounds in
    let few = subst (λ (ds : List ℕ). less ≤ sum ds) (sym c.as_slice.ensures.value) c.loop-made.invariant.no_less in
    IfOk-weaker c.last_root.result (IsBracketFrom wave pairing cost more state) (IsBracketFrom wave pairing cost less state)
    (λ root from. from_less wave pairing cost less more state root few from) c.last_root.ensures.root
