-- How many nodes of a tree have duals of their own.
use Rattle.std.specs.Prelude.{ℕ, Bool, true, false, List, Option, Some, None}
use Rattle.std.specs.List.{count_by}
use Rattle.wp_cert.specs.declared.tree.Node.{Node}
use Rattle.wp_cert.specs.declared.tree.Node.TheVariants as node
use Rattle.wp_cert.specs.declared.tree.Own.{Own}

-- whether duals are given
abbrev pub are_given : Option Own → Bool
are_given None = false
are_given (Some own) = true

-- whether a node has duals of its own
abbrev pub has_own : Node → Bool
has_own (node.Leaf own) = are_given own
has_own (node.Split first second own) = are_given own
has_own (node.Dead order) = false

-- how many nodes have duals of their own
abbrev pub own_nodes : List Node → ℕ
own_nodes nodes = count_by has_own nodes
