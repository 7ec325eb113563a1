use Rattle.std.proofs.Common.{All}
use Rattle.wp_model.specs.Warehouse.{IsSlot}
use Rattle.wp_savings.proofs.picks.ArticleRows.add_line.Given as goal

-- all slots so far are of the layout
abbrev pub invariant-loop-row : goal.invariant-loop-row
invariant-loop-row l = All (IsSlot l.layout) l.slots.items
