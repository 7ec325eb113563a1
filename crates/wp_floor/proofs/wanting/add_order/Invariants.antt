use Rattle.std.proofs.Common.{take}
use Rattle.wp_floor.specs.WantLists.{AreSplit, HaveAdded, KeepArticles}
use Rattle.wp_floor.proofs.wanting.add_order.Given as goal

-- the lines so far were added
abbrev pub invariant-loop-line : goal.invariant-loop-line
invariant-loop-line l = record {
  split : AreSplit l.start l.place l.wants.items;
  added : HaveAdded l.place (take l.line-index l.lines) l.fn.wants.items l.wants.items;
  articles : KeepArticles l.lines l.fn.wants.items l.wants.items;
}
