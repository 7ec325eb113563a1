use Rattle.std.proofs.Common.{List, subst, sym, rules}
use Rattle.std.proofs.lemmas.List.Sorted.{IsNonDecreasingBy-from_sort_by_key, IsPermutation-trans}
use Rattle.wp_crew.specs.Turns.{AreFalling}
use Rattle.wp_crew.specs.declared.turns.PlacedLength.{PlacedLength}
use Rattle.wp_crew.proofs.FallingTurns.{falling_from_end}
use Rattle.wp_crew.proofs.turns.sort_falling.Goals as goal

pub returns-clause-same : goal.returns-clause-same
returns-clause-same c =
    IsPermutation-trans c.args.turns.now c.sort_unstable_by_key.new.self c.reverse.new.self c.sort_unstable_by_key.ensures.permutation
    c.reverse.ensures.permutation

pub returns-clause-falling : goal.returns-clause-falling
returns-clause-falling c =
    subst (λ (turns : List PlacedLength). AreFalling turns) (sym c.reverse.ensures.after)
    (falling_from_end c.sort_unstable_by_key.new.self
    (IsNonDecreasingBy-from_sort_by_key (λ (turn : PlacedLength). turn.length) _ c.sort_unstable_by_key.ensures.sorted (λ a r q k. search rules)))
