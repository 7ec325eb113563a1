-- What reading and writing promise, over the meanings that an implementation gives.
use Rattle.std.specs.Prelude.{◌≡◌, ◌≢◌, ℕ, ◌+◌, ◌-◌, ◌^◌, ◌<◌, ◌≤◌, Bool, List, ◌++◌, length, take, Option, option_map}
use Rattle.std.specs.declared.io.ErrorKind.{ErrorKind}
use Rattle.std.specs.declared.io.ErrorKind.TheVariants.{OutOfMemory}
use Rattle.wp_model.specs.Limits.{most_file_bytes}

-- what files tell: the bytes that each name holds, where that is told; how often reading each name has failed; and how
-- many reads there were
pub record FilesTold : Type 0 where
  pub holds : List ℕ → Option (List ℕ)
  pub faults : List ℕ → ℕ
  pub reads : ℕ

-- what a sink tells: the bytes that it took, where that is told; how often taking has failed; whether a write was
-- answered with an error; and whether a write was made after one that was
pub record SinkTold : Type 0 where
  pub taken : Option (List ℕ)
  pub faults : ℕ
  pub stopped : Bool
  pub late : Bool

-- a file has more bytes than a file may have
abbrev pub IsTooLong : List ℕ → Type 0
IsTooLong bytes = most_file_bytes < length bytes

-- each name holds what it held, told or not
abbrev pub SameBytes : (List ℕ → Option (List ℕ)) → (List ℕ → Option (List ℕ)) → Type 0
SameBytes old new = (name : List ℕ) → new name ≡ old name

-- the count of no name falls
abbrev pub NoneFalls : (List ℕ → ℕ) → (List ℕ → ℕ) → Type 0
NoneFalls old new = (name : List ℕ) → old name ≤ new name

-- the bytes taken grew by these, where they are told
abbrev pub Grows : Option (List ℕ) → Option (List ℕ) → List ℕ → Type 0
Grows old new more = new ≡ option_map (λ bytes. bytes ++ more) old

-- the bytes taken grew by a beginning of the text, where they are told
abbrev pub TookPrefix : Option (List ℕ) → Option (List ℕ) → List ℕ → Type 0
TookPrefix old new text = (n : ℕ) × (n ≤ length text) × Grows old new (take n text)

-- the bytes taken grew by a beginning of the text that isn't all of it, where they are told
abbrev pub TookPart : Option (List ℕ) → Option (List ℕ) → List ℕ → Type 0
TookPart old new text = (n : ℕ) × (n < length text) × Grows old new (take n text)

-- What an error of the system is told as, and how often its device failed before and after. Want of memory is told as
-- it is, and isn't counted. Every other error is a fault and counts once, unless the count stands at the end of its
-- type: then it is told as want of memory.
pub record IsToldAs {F : Type 0} (failed memory : F) (kind : ErrorKind) (before after : ℕ) (answer : F) : Type 0 where
  pub lacks : kind ≡ OutOfMemory → (answer ≡ memory) × (after ≡ before)
  pub fails : kind ≢ OutOfMemory → before < 2 ^ 64 - 1 → (answer ≡ failed) × (after ≡ before + 1)
  pub at_its_end : kind ≢ OutOfMemory → before ≡ 2 ^ 64 - 1 → (answer ≡ memory) × (after ≡ before)
