use Rattle.std.proofs.Common.{List, subst, sym}
use Rattle.std.proofs.lemmas.List.Sorted.{length_permutation}
use Rattle.wp_crew.specs.Turns.{AreFallingTurns}
use Rattle.wp_crew.specs.declared.turns.PlacedLength.{PlacedLength}
use Rattle.wp_crew.proofs.FallingTurns.{turns_in_another_order}
use Rattle.wp_crew.proofs.Slices.{written_whole}
use Rattle.std.proofs.Common.{IsPermutation}
use Rattle.wp_crew.proofs.turns.falling_turns.Goals as goal

pub returns : goal.returns
returns c =
    let same = subst (λ (turns : List PlacedLength). IsPermutation turns c.sort_falling.new.turns) c.deref_mut.ensures.value c.sort_falling.ensures.same in
    subst (λ (turns : List PlacedLength). AreFallingTurns c.args.lengths.now turns)
    (sym (written_whole c.in_ok-turns.turns.len c.sort_falling.new.turns c.in_ok-turns.turns.items c.in_ok-turns.turns.ok.0
    (length_permutation c.in_ok-turns.turns.items c.sort_falling.new.turns same)))
    (record {
      one_each = turns_in_another_order c.args.lengths.now c.in_ok-turns.turns.items c.sort_falling.new.turns same c.in_ok-turns.ensures;
      falling = c.sort_falling.ensures.falling;
    })
