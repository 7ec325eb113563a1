use Rattle.std.proofs.Common.{All}
use Rattle.wp_model.specs.Warehouse.{IsSlot}
use Rattle.wp_savings.proofs.picks.ArticleRows.likely_slots.Given as goal

-- all slots so far are of the layout
abbrev pub invariant-loop-line : goal.invariant-loop-line
invariant-loop-line l = All (IsSlot l.layout) l.slots.items
