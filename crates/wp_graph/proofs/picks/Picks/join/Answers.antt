use Rattle.std.proofs.Common.{◌≡◌, ap, ◌∙◌, sym}
use Rattle.wp_graph.specs.PickSets.{PickSet}
use Rattle.wp_graph.proofs.NeededAisles.{bare_elsewhere, both_needed}
use Rattle.wp_graph.proofs.PickSets.{JoinsBits, joined_points, joined_slots}
use Rattle.wp_graph.proofs.picks.Picks.join.Goals as goal
use Rattle.wp_graph.proofs.picks.Picks.join.Goals.{After-join_words}

same_layout : (c : After-join_words) → c.self.inside.layout ≡ c.other.inside.layout
same_layout c = ap (λ (s : PickSet). s.layout) c.self.view_is ∙ c.requires ∙ sym (ap (λ (s : PickSet). s.layout) c.other.view_is)

joins : (c : After-join_words) → JoinsBits c.self.inside.layout c.join_words.new.words c.self.inside.words c.other.inside.words
joins c = record {
  left_marks = c.self.invariant.marks;
  right_marks = rw (← same_layout c) at c.other.invariant.marks;
  each = c.join_words.ensures.each;
}

pub join_words-requires : goal.join_words-requires
join_words-requires c = bare_elsewhere c.other.invariant

pub invariant_of-self : goal.invariant_of-self
invariant_of-self c =
    let after = (goal.at.invariant_of-self c).After-join_words in
    record {
      marks = joined_slots (joins after);
      aisles = both_needed c.self.invariant.aisles (rw (← same_layout after) at c.other.invariant.aisles) (joined_points (joins after));
    }

pub returns-clause-points : goal.returns-clause-points
returns-clause-points c =
    let after = (goal.at.returns-clause-points c).After-join_words in
    rw (← c.self.view_is, ← c.other.view_is, ← same_layout after) (joined_points (joins after))
