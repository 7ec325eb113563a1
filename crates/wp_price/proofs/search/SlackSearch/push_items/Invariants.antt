use Rattle.std.proofs.Common.{◌≡◌, List, Bool, [], ◌++◌}
use Rattle.wp_lengths.specs.Visits.{Children}
use Rattle.wp_price.specs.ShortMarks.{AreShort}
use Rattle.wp_price.proofs.search.SlackSearch.push_items.Given as goal

abbrev pub invariant-loop-order : goal.invariant-loop-order
invariant-loop-order l = record {
  so_far : List Bool;
  is : l.marks ≡ l.initial.marks ++ so_far;
  chain : (rest : List Bool) → AreShort l.self.wave l.self.pairing l.self.duals (Children [] l.order) rest
      → AreShort l.self.wave l.self.pairing l.self.duals (Children [] 0) (so_far ++ rest);
}
