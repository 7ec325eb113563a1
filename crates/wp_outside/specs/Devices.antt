-- Devices that are written to, and what of it counts.
use Rattle.std.specs.Prelude.{ℕ, ◌-◌, Bool, List, Option, length, option_map, take}

-- what a writer holds, where it tells that, how often it failed, and how many of these bytes it took last and didn't
-- flush
pub record Written : Type 0 where
  pub contents : Option (List ℕ)
  pub faults : ℕ
  pub behind : ℕ

-- a writer of the system: what it holds, where it tells that, and how often it failed
pub record SystemWritten : Type 0 where
  pub contents : Option (List ℕ)
  pub faults : ℕ

-- all but so many bytes at the end
abbrev pub but_last : ℕ → List ℕ → List ℕ
but_last behind bytes = take (length bytes - behind) bytes

-- what was flushed of it
abbrev pub flushed : Written → Option (List ℕ)
flushed written = option_map (but_last written.behind) written.contents

-- whether a write was answered with an error, and whether one was made after that
pub record WriteErrors : Type 0 where
  pub stopped : Bool
  pub late : Bool

-- a sink over a writer: the writer, how often taking failed, and the errors of its writes
pub record OverWriter : Type 0 where
  pub writer : Written
  pub faults : ℕ
  pub errors : WriteErrors

-- files that are opened by their names: what opens them, how often reading one failed, and how many reads there were
pub record Opened (O : Type 0) : Type 0 where
  pub opener : O
  pub faults : ℕ
  pub reads : ℕ
