use Rattle.std.proofs.Common.{◌≡◌, length, ◌-◌, ◌≤◌, take, false}
use Rattle.wp_outside.specs.Outside.{Grows}
use Rattle.wp_outside.proofs.writing.write_text.Given as goal

-- the sink took the first `done` bytes, and no write was answered with an error
abbrev pub invariant-loop-done : goal.invariant-loop-done
invariant-loop-done g l =
    let before = g.K.Sink.told l.initial.out in
    let after = g.K.Sink.told l.out in
    (l.done ≤ length l.text) × Grows before.taken after.taken (take l.done l.text) × (after.faults ≡ before.faults) × (after.stopped ≡ before.stopped)
    × (before.stopped ≡ false → after.late ≡ before.late)

abbrev pub decreases-loop-done : goal.decreases-loop-done
decreases-loop-done g l = length l.text - l.done
