use Rattle.std.proofs.Common.{◌≡◌, max, drop}
use Rattle.wp_crew.specs.Crews.{greatest}
use Rattle.wp_crew.proofs.loads.greatest.Given as goal

abbrev pub invariant-loop-number : goal.invariant-loop-number
invariant-loop-number l = max l.most (greatest (drop l.number-index l.numbers)) ≡ greatest l.numbers
