use Rattle.std.proofs.Common.{refl, subst}
use Rattle.std.proofs.lemmas.Result.{IfOk-weaker}
use Rattle.wp_lp.specs.Covers.{pairs_of}
use Rattle.wp_lp.specs.Roots.{IsCauseOf, IsRoot}
use Rattle.wp_lp.specs.declared.root.RootState.{RootState}
use Rattle.wp_lp.proofs.FewRounds.{few_in_run}
use Rattle.wp_lp.proofs.Law.{below_covers}
use Rattle.wp_lp.proofs.bracket.root_pair.Goals as goal

pub returns-clause-below : goal.returns-clause-below
returns-clause-below g c =
    let wave = c.args.wave.now in
    let pairs = pairs_of wave c.args.capacity in
    IfOk-weaker c.root_from_start.result (IsRoot wave pairs c.args.rounds) _
    (λ root is. below_covers wave pairs root.duals.items root.low root.denominator is.bracket.feasible is.bracket.low_is) c.root_from_start.ensures.root

pub returns-clause-few : goal.returns-clause-few
returns-clause-few g c =
    let wave = c.args.wave.now in
    let pairs = pairs_of wave c.args.capacity in
    IfOk-weaker c.root_from_start.result (IsRoot wave pairs c.args.rounds) _
    (λ root is made all in_state permitted.
    let cause = subst (λ (s : RootState). IsCauseOf wave pairs c.args.rounds root.low root.high root.denominator s) in_state is.cause in
    few_in_run wave pairs made all refl c.root_from_start.ensures.some_orders cause.1 permitted) c.root_from_start.ensures.root
