use Rattle.std.proofs.Common.{◌≢◌, ◌<◌, ℕ}
use Rattle.wp_master.specs.Bases.{basic_place}
use Rattle.wp_master.proofs.run.Run.dual.Given as goal

abbrev pub invariant-loop-row : goal.invariant-loop-row
invariant-loop-row l = (row : ℕ) → row < l.row → basic_place l.self.basis.items row ≢ l.place
