-- What the system gives a run, and how the run then ends.
use Rattle.std.specs.Prelude.{◌≡◌, ◌⊎◌, ℕ}
use Rattle.wp_top.specs.Ends.{Asked}
use Rattle.wp_top.specs.Promise.{Course, Keeps}

-- there was no memory for the words: nothing was read or written, no call was made on the disk, and the run ends with 5
pub record LacksWords {D : Type 0} (run : Course) (disk disk' : D) (status : ℕ) : Type 0 where
  pub ends : status ≡ 5
  pub unread : run.files' ≡ run.files
  pub unwritten : run.sink' ≡ run.sink
  pub untouched : disk' ≡ disk

-- a run keeps what it promises for what is asked for, or there was no memory for the words
abbrev pub EndsFor : {D : Type 0} → Asked → Course → D → D → ℕ → Type 0
EndsFor asked run disk disk' status = Keeps asked run disk disk' status ⊎ LacksWords run disk disk' status
