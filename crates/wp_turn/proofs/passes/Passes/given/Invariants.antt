use Rattle.std.proofs.Common.{◌≡◌, ◌≤◌, ◌*◌}
use Rattle.std.specs.Prelude.{take}
use Rattle.wp_turn.specs.Promises.{given_by}
use Rattle.wp_turn.proofs.passes.Passes.given.Given as goal

abbrev pub invariant-loop-pass : goal.invariant-loop-pass
invariant-loop-pass g l = record { sum : l.given ≡ given_by (take l.pass-index l.self.list); few : l.given ≤ 64 * l.pass-index }
