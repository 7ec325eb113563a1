-- What the system gives a run, and how the run then ends.
use Rattle.std.specs.Prelude.{◌≡◌, ◌⊎◌, ℕ}
use Rattle.wp_waves_top.specs.Ends.{Asked}
use Rattle.wp_waves_top.specs.Promise.{Course, Keeps}

-- there was no memory for the words: nothing was read or written, and the run ends with 5
pub record LacksWords (run : Course) (status : ℕ) : Type 0 where
  pub ends : status ≡ 5
  pub unread : run.files' ≡ run.files
  pub unwritten : run.sink' ≡ run.sink

-- a run keeps what it promises for what is asked for, or there was no memory for the words
abbrev pub EndsFor : Asked → Course → ℕ → Type 0
EndsFor asked run status = Keeps asked run status ⊎ LacksWords run status
