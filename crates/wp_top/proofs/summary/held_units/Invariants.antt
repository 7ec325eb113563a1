use Rattle.std.proofs.Common.{◌≡◌, ◌*◌, ◌≤◌, take}
use Rattle.wp_model.specs.History.{state_after}
use Rattle.wp_top.specs.Summaries.{held_units}
use Rattle.wp_top.proofs.summary.held_units.Given as goal

-- the units of the rows so far were added
abbrev pub invariant-loop-number : goal.invariant-loop-number
invariant-loop-number l = record {
  units : l.units ≡ held_units (take l.number (state_after l.machine).rows);
  few : l.units ≤ l.number * 4294967295;
}
