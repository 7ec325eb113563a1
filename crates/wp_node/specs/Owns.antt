-- What a node of the search has of its own, as a certificate has it.
use Rattle.std.specs.Prelude.{[]}
use Rattle.wp_cert.specs.declared.tree.Own.{Own}
use Rattle.wp_node.specs.declared.own.NodeOwn.{NodeOwn}

-- the same duals, marks and tight batches, and no other price
abbrev pub as_own : NodeOwn → Own
as_own own = record { duals = own.duals; marks = own.marks; tight = own.tight; count = 0; prices = [] }
