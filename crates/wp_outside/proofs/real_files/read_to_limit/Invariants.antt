use Rattle.std.proofs.Common.{◌≡◌, ◌+◌, ◌-◌, ◌≤◌, vec_len}
use Rattle.std.specs.Io.KnownBytes.{Consumes}
use Rattle.wp_model.specs.Limits.{most_file_bytes}
use Rattle.wp_outside.specs.Outside.{SameBytes}
use Rattle.wp_outside.specs.declared.real_files.TheConstants.{PIECE_BYTES}
use Rattle.wp_outside.proofs.real_files.read_to_limit.Given as goal

-- what was read so far is what the file has lost, and what opens it holds what it held and didn't fail
abbrev pub invariant-loop-bytes : goal.invariant-loop-bytes
invariant-loop-bytes g l =
    (vec_len l.piece ≡ PIECE_BYTES) × (vec_len l.bytes ≤ most_file_bytes + 1)
    × Consumes (g.O.File.Read.remaining l.initial.file) (g.O.File.Read.remaining l.file) l.bytes.items
    × SameBytes (g.O.Opens.holds l.initial.opener) (g.O.Opens.holds l.opener)
    × (g.O.Opens.faults l.opener l.name ≡ g.O.Opens.faults l.initial.opener l.name)

abbrev pub decreases-loop-bytes : goal.decreases-loop-bytes
decreases-loop-bytes g l = most_file_bytes + 1 - vec_len l.bytes
