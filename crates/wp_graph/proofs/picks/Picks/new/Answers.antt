use Rattle.wp_graph.proofs.Marks.{none_marked}
use Rattle.wp_graph.proofs.NeededAisles.{depot_alone}
use Rattle.wp_graph.proofs.PickSets.{unmarked_points}
use Rattle.wp_graph.proofs.picks.Picks.new.Goals as goal

pub invariant_of-result : goal.invariant_of-result
invariant_of-result c = record {
  marks = record {
    ranges = c.no_words.ensures.valid;
    slots = λ aisle slot low high marked. absurd (none_marked 260 aisle slot (rw c.no_words.ensures.empty at marked));
  };
  aisles = rw (unmarked_points c.args.layout.now _ c.no_words.ensures.empty, c.bit_of.ensures, c.depot.ensures.value)
      (depot_alone c.args.layout.now c.depot.ensures.valid);
}

pub returns-clause-empty : goal.returns-clause-empty
returns-clause-empty c = unmarked_points _ _ c.no_words.ensures.empty
