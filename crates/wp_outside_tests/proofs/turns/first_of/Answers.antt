use Rattle.std.proofs.Common.{All, subst, length, ◌+◌, ◌≤◌}
use Rattle.std.specs.Option.{option_to_list}
use Rattle.wp_turn.specs.Promises.{IsOf, own_calls}
use Rattle.wp_turn.specs.Rule.{most_calls}
use Rattle.wp_turn.proofs.Closing.{all_right}
use Rattle.wp_outside_tests.proofs.turns.first_of.Goals as goal

pub returns-clause-own : goal.returns-clause-own
returns-clause-own c =
    let turn = c.args.turn.now in
    all_right (λ p. IsOf turn p) (option_to_list c.next.result) c.next.new.self.list (subst (λ l. All (λ p. IsOf turn p) l) c.next.ensures.list c.requires.own)

pub returns-clause-few : goal.returns-clause-few
returns-clause-few c =
    let times = c.args.times in
    all_right (λ p. length (own_calls p) + times ≤ most_calls) (option_to_list c.next.result) c.next.new.self.list
    (subst (λ l. All (λ p. length (own_calls p) + times ≤ most_calls) l) c.next.ensures.list c.requires.few)
