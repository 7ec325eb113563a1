use Rattle.std.proofs.Common.{ℕ, List, subst, sym}
use Rattle.wp_crew.specs.Crews.{AreNumberedByFirst}
use Rattle.wp_crew.proofs.numbers.number_from.Goals as goal

pub returns-clause-renumbered : goal.returns-clause-renumbered
returns-clause-renumbered c =
    (c.number_by_first.new.number_of, c.number_by_first.new.picker_with, c.number_by_first.ensures.numbers, c.renumber.ensures)

pub returns-clause-numbered : goal.returns-clause-numbered
returns-clause-numbered c =
    subst (λ (picker_of : List ℕ). AreNumberedByFirst picker_of) (sym c.renumber.ensures) c.number_by_first.ensures.numbered
