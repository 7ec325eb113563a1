use Rattle.std.proofs.Common.{◌↔◌, ℕ, Contains}
use Rattle.wp_cuts.specs.KeptCuts.{StandsBelow}
use Rattle.wp_cuts.proofs.cut.kind_of.Given as goal

abbrev pub invariant-loop-place : goal.invariant-loop-place
invariant-loop-place l = (order : ℕ) → Contains l.kind order ↔ StandsBelow l.orders l.parts l.place l.part order
