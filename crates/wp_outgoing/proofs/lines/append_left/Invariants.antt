use Rattle.std.proofs.Common.{◌≡◌, ◌++◌, take}
use Rattle.std.specs.List.{flat_map}
use Rattle.wp_outgoing.specs.Lines.{left_line}
use Rattle.wp_outgoing.proofs.lines.append_left.Given as goal

-- the lines of the orders so far were written
abbrev pub invariant-loop-one : goal.invariant-loop-one
invariant-loop-one l = l.text.items ≡ l.fn.text.items ++ flat_map left_line (take l.one-index l.left)
