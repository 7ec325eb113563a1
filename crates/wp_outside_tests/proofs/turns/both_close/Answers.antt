use Rattle.std.proofs.Common.{All, ap, subst, sym, ◌∙◌}
use Rattle.wp_turn.specs.Promises.{IsOf}
use Rattle.wp_turn.proofs.Closing.{all_rest, all_snoc}
use Rattle.wp_outside_tests.proofs.turns.both_close.Goals as goal

pub close-requires : goal.close-requires
close-requires c =
    let turn = c.args.turn in
    let ours = all_rest (λ p. IsOf turn p) c.in-Some.one c.next.new.self.list (subst (λ l. All (λ p. IsOf turn p) l) c.in-Some.ensures.list c.requires.own) in
    let met : IsOf turn c.meet-whole.result = (ap (λ p. p.id) c.meet-whole.ensures.both ∙ ours.0.0, ap (λ p. p.start) c.meet-whole.ensures.both ∙ ours.0.1) in
    record {
      own = subst (λ l. All (λ p. IsOf turn p) l) (sym c.put.ensures.list)
          (all_snoc (λ p. IsOf turn p) c.next.new.self.list c.meet-whole.result ours.1 met);
    }
