use Rattle.std.proofs.Common.{inl, inr}
use Rattle.std.proofs.lemmas.Bool.{both_ways}
use Rattle.wp_visit.proofs.item.item_of.Goals as goal
use Rattle.wp_visit.proofs.item.item_of.Goals.{then-not-is_later-via-then-not-is_later, then-not-is_later-via-else-not-is_later+then-not-permits}

pub returns-then-not-is_later : goal.returns-then-not-is_later
returns-then-not-is_later c = record {
  class = c.joined_to-class.ensures;
  ascending = c.len-size.ensures.valid.ascending;
  parted = c.parted_from-parted.ensures;
  used = λ e. absurd (cc e);
  unused = λ e. elim c.then-not-is_later.branch [
    | then-not-is_later-via-then-not-is_later w ↦ inl (λ item. both_ways c.is_later.result w.if-not-is_later.true (c.is_later.ensures.1 (record {
      known = item.known;
      later = item.least;
    })))
    | then-not-is_later-via-else-not-is_later+then-not-permits w ↦ inr (λ permitted. both_ways w.permits.result w.if-not-permits.true
        (w.permits.ensures.1 permitted))
  ];
  reaches = c.requires.reaches;
}
