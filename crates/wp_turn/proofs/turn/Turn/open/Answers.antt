use Rattle.std.proofs.Common.{All, subst, sym, ◌∙◌}
use Rattle.wp_turn.specs.Promises.{IsOf}
use Rattle.wp_turn.proofs.NewPasses.{new_of_it}
use Rattle.wp_turn.proofs.turn.Turn.open.Goals as goal

pub returns-clause-own : goal.returns-clause-own
returns-clause-own g c =
    let turn = c.in_ok-turn.turn in
    subst (λ l. All (λ p. IsOf turn p) l) (sym (c.of.ensures.list ∙ c.deal-list.ensures.passes)) (new_of_it g.row.V-Entry.Denot turn turn.made)
