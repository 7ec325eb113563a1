use Rattle.std.proofs.Common.{◌≡◌, ◌*◌, ℕ, map, take, pos}
use Rattle.wp_lp.proofs.whole.duals_of.Given as goal

abbrev pub invariant-loop-sixtieth : goal.invariant-loop-sixtieth
invariant-loop-sixtieth l = l.duals.items ≡ map (λ (dual : ℕ). pos (dual * l.over)) (take l.sixtieth-index l.sixtieths)
