use Rattle.std.proofs.Common.{All, subst}
use Rattle.std.specs.Option.{option_to_list}
use Rattle.wp_turn.specs.Promises.{IsOf}
use Rattle.wp_turn.proofs.Closing.{all_right}
use Rattle.wp_outside_tests.proofs.turns.one_of.Goals as goal

pub returns-clause-own : goal.returns-clause-own
returns-clause-own c =
    let turn = c.args.turn.now in
    all_right (λ p. IsOf turn p) (option_to_list c.next.result) c.next.new.self.list (subst (λ l. All (λ p. IsOf turn p) l) c.next.ensures.list c.requires.own)
