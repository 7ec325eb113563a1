use Rattle.std.proofs.Common.{All, ap, subst, sym, length, ◌+◌, ◌≤◌, arith}
use Rattle.wp_turn.specs.Promises.{own_calls, new_passes}
use Rattle.wp_turn.specs.Rule.{most_calls}
use Rattle.wp_turn.proofs.NewPasses.{new_without_calls}
use Rattle.wp_outside_tests.proofs.turns.run_is_right.Goals as goal

pub add_all-requires-clause-few : goal.add_all-requires-clause-few
add_all-requires-clause-few g c κs within =
    let turn = c.in_ok-turn.turn in
    let few : All (λ p. length (own_calls p) + c.args.times ≤ most_calls) (new_passes turn c.args.callers) = λ k d inside. omega
    (arith, ap length (new_without_calls _ turn c.args.callers k d inside), c.requires.few) in
    subst (λ l. All (λ p. length (own_calls p) + c.args.times ≤ most_calls) l) (sym c.in_ok-turn.ensures.passes) few
