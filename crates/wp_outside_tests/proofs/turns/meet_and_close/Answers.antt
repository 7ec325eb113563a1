use Rattle.std.proofs.Common.{All, ap, subst, sym, ◌∙◌}
use Rattle.wp_turn.specs.Promises.{IsOf}
use Rattle.wp_turn.proofs.Closing.{all_snoc}
use Rattle.wp_outside_tests.proofs.turns.meet_and_close.Goals as goal

pub close-requires : goal.close-requires
close-requires c =
    let turn = c.args.turn in
    let id = ap (λ p. p.id) c.meet-whole.ensures.both ∙ (ap (λ p. p.id) c.meet.ensures.both ∙ c.requires.own.0.0) in
    let start = ap (λ p. p.start) c.meet-whole.ensures.both ∙ (ap (λ p. p.start) c.meet.ensures.both ∙ c.requires.own.0.1) in
    record {
      own = subst (λ l. All (λ p. IsOf turn p) l) (sym c.put.ensures.list)
          (all_snoc (λ p. IsOf turn p) c.args.passes.list c.meet-whole.result c.requires.others (id, start));
    }
