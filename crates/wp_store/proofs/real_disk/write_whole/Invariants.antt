use Rattle.std.proofs.Common.{◌≡◌, ◌+◌, ◌-◌, ◌≤◌, take, length}
use Rattle.std.specs.Prelude.{is_some, option_map}
use Rattle.wp_store.specs.Disk.{WhereTold, Torn, written_over}
use Rattle.wp_store.specs.DiskFile.{AsOneCall}
use Rattle.wp_store.proofs.real_disk.write_whole.Given as goal

-- the first `done` bytes of the piece are written, and the calls so far are as one that writes the piece
abbrev pub invariant-loop-done : goal.invariant-loop-done
invariant-loop-done g l =
    let before = g.F.DiskFile.told l.initial.file in
    let after = g.F.DiskFile.told l.file in
    let place = g.F.DiskFile.position l.initial.file in
    (l.done ≤ length l.piece) × (after.holds ≡ option_map (written_over place (take l.done l.piece)) before.holds) × (after.faults ≡ before.faults)
    × (is_some after.holds ≡ is_some before.holds)
    × WhereTold before.holds (λ bytes. (place ≤ length bytes) × (g.F.DiskFile.position l.file ≡ place + l.done)
    × AsOneCall (Torn place (length l.piece)) before after)

abbrev pub decreases-loop-done : goal.decreases-loop-done
decreases-loop-done g l = length l.piece - l.done
