use Rattle.std.proofs.Common.{◌≡◌, ℕ, ◌<◌, get_or, false}
use Rattle.wp_model.specs.Location.{is_dash}
use Rattle.wp_model.proofs.location.dash_at.Given as goal

-- no dash so far
abbrev pub invariant-loop-at : goal.invariant-loop-at
invariant-loop-at l = (k : ℕ) → k < l.at → is_dash (get_or l.text k 0) ≡ false
