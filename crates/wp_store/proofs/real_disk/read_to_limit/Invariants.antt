use Rattle.std.proofs.Common.{◌≡◌, ◌+◌, ◌-◌, ◌≤◌, take, length, vec_len}
use Rattle.wp_store.specs.Disk.{WhereTold, Stays}
use Rattle.wp_store.specs.Records.{most_store_bytes}
use Rattle.wp_store.specs.declared.real_disk.TheConstants.{PIECE_BYTES}
use Rattle.wp_store.specs.DiskFile.{AsOneCall}
use Rattle.wp_store.proofs.real_disk.read_to_limit.Given as goal

-- what was read so far is the front of the file, which has come to its end, and the calls so far are as one that reads
abbrev pub invariant-loop-bytes : goal.invariant-loop-bytes
invariant-loop-bytes g l =
    let before = g.F.DiskFile.told l.initial.file in
    let after = g.F.DiskFile.told l.file in
    (vec_len l.piece ≡ PIECE_BYTES) × (vec_len l.bytes ≤ most_store_bytes + 1)
    × (after.holds ≡ before.holds) × (after.faults ≡ before.faults)
    × WhereTold before.holds (λ bytes. (l.bytes.items ≡ take (vec_len l.bytes) bytes) × (vec_len l.bytes ≤ length bytes)
    × (g.F.DiskFile.position l.file ≡ vec_len l.bytes)
    × AsOneCall Stays before after)

abbrev pub decreases-loop-bytes : goal.decreases-loop-bytes
decreases-loop-bytes g l = most_store_bytes + 1 - vec_len l.bytes
