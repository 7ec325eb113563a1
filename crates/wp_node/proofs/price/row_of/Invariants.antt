use Rattle.wp_node.specs.Prices.{IsRow}
use Rattle.wp_node.proofs.price.row_of.Given as goal

abbrev pub invariant-loop-things : goal.invariant-loop-things
invariant-loop-things l = IsRow l.things l.row
