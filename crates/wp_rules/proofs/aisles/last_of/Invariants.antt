use Rattle.std.proofs.Common.{◌≡◌, drop}
use Rattle.wp_rules.specs.Rules.{last_of}
use Rattle.wp_rules.proofs.aisles.last_of.Given as goal

abbrev pub invariant-loop-next : goal.invariant-loop-next
invariant-loop-next l = last_of l.last (drop l.next-index l.aisles) ≡ last_of l.fn.aisle l.aisles
