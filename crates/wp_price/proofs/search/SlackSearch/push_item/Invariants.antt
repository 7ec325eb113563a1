use Rattle.std.proofs.Common.{◌≡◌}
use Rattle.wp_price.specs.ItemMarks.{AreNoMarksFound}
use Rattle.wp_price.proofs.search.SlackSearch.push_item.Given as goal

abbrev pub invariant-loop-worker : goal.invariant-loop-worker
invariant-loop-worker l = record { same : l.marks ≡ l.initial.marks; none : AreNoMarksFound l.found l.worker l.order }
