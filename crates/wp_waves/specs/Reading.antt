-- What the reader of open files answers.
use Rattle.std.specs.Prelude.{◌≡◌, ℕ, false, Result, Ok, Err}
use Rattle.wp_tables.specs.declared.fault.RowFault.{RowFault}
use Rattle.wp_tables.specs.declared.fault.Why.{Why}
use Rattle.wp_waves.specs.Faults.{wants_memory}
use Rattle.wp_waves.specs.declared.fault.OpenFileFault.{OpenFileFault}
use Rattle.wp_waves.specs.declared.fault.OpenWhy.{OpenWhy}
use Rattle.wp_waves.specs.declared.fault.OpenWhy.TheVariants as why

-- what a test gives that records of other tables have too
abbrev pub as_open : {A : Type 0} → Result A Why → Result A OpenWhy
as_open (Ok x) = Ok x
as_open (Err w) = Err (why.Table w)

-- the same of the records of a table
abbrev pub as_open_table : {A : Type 0} → Result A RowFault → Result A OpenFileFault
as_open_table (Ok x) = Ok x
as_open_table (Err fault) = Err (record { row = fault.row; why = why.Table fault.why })

-- what a record gives: a fault is told with the record's number
abbrev pub at_row : {A : Type 0} → ℕ → Result A OpenWhy → Result A OpenFileFault
at_row number (Ok x) = Ok x
at_row number (Err w) = Err (record { row = number; why = w })

-- a reader gives the value that the text says, as contracts see it, or the first record that fails and its first
-- failing test; but it may want memory
abbrev pub ReadsBy : {A B : Type 0} → (A → B) → Result A OpenFileFault → Result B OpenFileFault → Type 0
ReadsBy view (Ok x) said = said ≡ Ok (view x)
ReadsBy view (Err fault) said = wants_memory fault.why ≡ false → said ≡ Err fault

-- a record is taken in to what was made before, or told as a fault; but it may want memory
abbrev pub TakesIn : {A U : Type 0} → Result U OpenFileFault → A → Result A OpenFileFault → Type 0
TakesIn (Ok x) new said = said ≡ Ok new
TakesIn (Err fault) new said = wants_memory fault.why ≡ false → said ≡ Err fault
