-- Files and sinks in memory, as clauses see them.
use Rattle.std.specs.Prelude.{ℕ, ◌+◌, ◌-◌, ◌^◌, Bool, ◌==◌, ◌&&◌, ◌||◌, nat_lt, if◌then◌else◌, List, [], length, map}
use Rattle.std.specs.Prelude.{find, Option, Some, is_none, option_map}
use Rattle.std.specs.Prelude.{unwrap_or, String, string_bytes, Vec}
use Rattle.std.specs.List.{zip, list_any}
use Rattle.std.specs.Str.{bytes_eq}
use Rattle.std.specs.declared.alloc.Global.{Global}
use Rattle.wp_outside.specs.Devices.{WriteErrors}
use Rattle.wp_outside.specs.Outside.{FilesTold, SinkTold}

-- files made of names and contents: each name beside its bytes
abbrev pub files_of : List (String Global) → List (Vec ℕ Global) → List (List ℕ × List ℕ)
files_of names contents = zip (map string_bytes names) (map (λ bytes. bytes.items) contents)

-- what a name holds: of equal names, what the first holds
abbrev pub bytes_of : List (List ℕ × List ℕ) → List ℕ → Option (List ℕ)
bytes_of files name = option_map (λ file. file.1) (find (λ file. bytes_eq file.0 name) files)

-- the same, where a name that no file has holds no bytes
abbrev pub bytes_or_empty : List (List ℕ × List ℕ) → List ℕ → List ℕ
bytes_or_empty files name = unwrap_or (bytes_of files name) []

-- calls that are numbered from 1: those that are to fail, how many were made, and how many failed
pub record NumberedCalls : Type 0 where
  pub fails : List ℕ
  pub made : ℕ
  pub faults : ℕ

-- the next call has a number: there is none after 2^64 - 1
abbrev pub has_number : NumberedCalls → Bool
has_number calls = nat_lt calls.made (2 ^ 64 - 1)

-- the number of the next call is among those that are to fail
abbrev pub is_to_fail : NumberedCalls → Bool
is_to_fail calls = list_any (λ number. number == calls.made + 1) calls.fails

-- one more call, if it has a number, which failed or didn't
abbrev pub after_call : NumberedCalls → Bool → NumberedCalls
after_call calls failed =
    let faults = if failed then calls.faults + 1 else calls.faults in
    if has_number calls then record calls { made = calls.made + 1; faults = faults } else calls

-- files in memory, and the reads of them
pub record FilesInMemory : Type 0 where
  pub files : List (List ℕ × List ℕ)
  pub calls : NumberedCalls

-- a read of this name fails: its number says so, or no file has the name
abbrev pub read_fails : FilesInMemory → List ℕ → Bool
read_fails held name = has_number held.calls && (is_to_fail held.calls || is_none (bytes_of held.files name))

-- what a read of this name leaves
abbrev pub after_read : FilesInMemory → List ℕ → FilesInMemory
after_read held name = record held { calls = after_call held.calls (read_fails held name) }

-- what such files tell
abbrev pub files_told : FilesInMemory → FilesTold
files_told held = record { holds = bytes_of held.files; faults = λ _. held.calls.faults; reads = held.calls.made }

-- the bytes that a sink in memory took, the writes to it of pieces that aren't empty, and the errors of its writes
pub record SinkInMemory : Type 0 where
  pub taken : List ℕ
  pub calls : NumberedCalls
  pub errors : WriteErrors

-- what such a sink tells
abbrev pub sink_told : SinkInMemory → SinkTold
sink_told sink = record {
  taken = Some sink.taken;
  faults = sink.calls.faults;
  stopped = sink.errors.stopped;
  late = sink.errors.late;
}

-- a write of this piece fails: it isn't empty, and its number says so
abbrev pub piece_fails : NumberedCalls → List ℕ → Bool
piece_fails calls piece = nat_lt 0 (length piece) && has_number calls && is_to_fail calls

abbrev pub write_fails : SinkInMemory → List ℕ → Bool
write_fails sink piece = piece_fails sink.calls piece

-- the writes after one of this piece
abbrev pub calls_after_piece : NumberedCalls → List ℕ → NumberedCalls
calls_after_piece calls piece = if nat_lt 0 (length piece) then after_call calls (piece_fails calls piece) else calls

abbrev pub calls_after_write : SinkInMemory → List ℕ → NumberedCalls
calls_after_write sink piece = calls_after_piece sink.calls piece

-- files and a sink in memory that never fail: the files, how many reads there were, the bytes that were taken, and the
-- errors of writes
pub record BothInMemory : Type 0 where
  pub files : List (List ℕ × List ℕ)
  pub reads : ℕ
  pub taken : List ℕ
  pub errors : WriteErrors
