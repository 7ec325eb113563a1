use Rattle.std.proofs.Common.{◌<◌, ℕ}
use Rattle.wp_cert.specs.Trees.{IsTightAt}
use Rattle.wp_cert.proofs.own.first_slack.Given as goal

abbrev pub invariant-loop-order : goal.invariant-loop-order
invariant-loop-order l = (lower : ℕ) → lower < l.order → IsTightAt l.tested.terms.now l.tested.pairs.now l.tested.own.now lower
