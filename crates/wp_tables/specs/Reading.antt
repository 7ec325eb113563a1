-- What the readers of tables answer.
use Rattle.std.specs.Prelude.{◌≡◌, ℕ, false, List, [], ◌∷◌, ◌++◌, if◌then◌else◌, Result, Ok, Err}
use Rattle.wp_model.specs.TableLines.{Record, same_record}
use Rattle.wp_tables.specs.Faults.{wants_memory}
use Rattle.wp_tables.specs.Records.{Kept}
use Rattle.wp_tables.specs.declared.fault.RowFault.{RowFault}
use Rattle.wp_tables.specs.declared.fault.Why.{Why}
use Rattle.wp_tables.specs.declared.fault.Why.TheVariants as why
use Rattle.wp_model.specs.Outcomes.{and_then}

-- a fault at the record with a number
abbrev pub fault_at : ℕ → Why → RowFault
fault_at number why = record { row = number; why = why }

-- what a record gives: a fault is told with the record's number
abbrev pub at_row : {A : Type 0} → ℕ → Result A Why → Result A RowFault
at_row number (Ok x) = Ok x
at_row number (Err why) = Err (fault_at number why)

-- what records make, one after the other, of what was made before them; or the fault of the first that fails
abbrev pub made_by : {A : Type 0} → (A → Record → Result A Why) → A → List Kept → Result A RowFault
made_by next made [] = Ok made
made_by next made (kept ∷ more) = and_then (at_row kept.number (next made kept.fields)) (λ made. made_by next made more)

-- the records under a heading, which is the first that is kept
abbrev pub under_heading : Record → List Kept → Result (List Kept) RowFault
under_heading heading [] = Err (fault_at 1 why.Columns)
under_heading heading (kept ∷ more) = if same_record kept.fields heading then Ok more
    else Err (fault_at kept.number why.Columns)

-- what the records under a heading make, out of nothing
abbrev pub table_of : {A : Type 0} → Record → (A → Record → Result A Why) → A → List Kept → Result A RowFault
table_of heading next nothing records = and_then (under_heading heading records) (made_by next nothing)

-- the first record that fails, with its number: those before it make something, and after them it fails its first
-- failing test
pub record IsFirstFault {A : Type 0} (next : A → Record → Result A Why) (nothing : A) (records : List Kept)
    (fault : RowFault) : Type 0 where
  pub before : List Kept
  pub failing : Kept
  pub others : List Kept
  pub made : A
  pub parts : records ≡ before ++ failing ∷ others
  pub passed : made_by next nothing before ≡ Ok made
  pub fails : next made failing.fields ≡ Err fault.why
  pub number : fault.row ≡ failing.number

-- a part of a reader gives the value that a record says, as contracts see it, or the first test that fails; but it may
-- want memory
abbrev pub GivesBy : {A B : Type 0} → (A → B) → Result A Why → Result B Why → Type 0
GivesBy view (Ok x) said = said ≡ Ok (view x)
GivesBy view (Err why) said = wants_memory why ≡ false → said ≡ Err why

-- the same, where the value is what contracts see
abbrev pub Gives : {A : Type 0} → Result A Why → Result A Why → Type 0
Gives = GivesBy (λ x. x)

-- a reader gives the value that the text says, as contracts see it, or the first record that fails and its first
-- failing test; but it may want memory
abbrev pub ReadsBy : {A B : Type 0} → (A → B) → Result A RowFault → Result B RowFault → Type 0
ReadsBy view (Ok x) said = said ≡ Ok (view x)
ReadsBy view (Err fault) said = wants_memory fault.why ≡ false → said ≡ Err fault

-- the same, where the value is what contracts see
abbrev pub Reads : {A : Type 0} → Result A RowFault → Result A RowFault → Type 0
Reads = ReadsBy (λ x. x)

-- a record is taken in to what was made before, or told as a fault; but it may want memory
abbrev pub TakesIn : {A U : Type 0} → Result U RowFault → A → Result A RowFault → Type 0
TakesIn (Ok x) new said = said ≡ Ok new
TakesIn (Err fault) new said = wants_memory fault.why ≡ false → said ≡ Err fault
