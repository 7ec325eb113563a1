-- What the faults of tables are told as.
use Rattle.std.specs.Prelude.{ℕ, ◌++◌, Bool, true, false, List, codes}
use Rattle.std.specs.Fmt.{decimal}
use Rattle.wp_tables.specs.declared.fault.RowFault.{RowFault}
use Rattle.wp_tables.specs.declared.fault.Why.{Why}
use Rattle.wp_tables.specs.declared.fault.Why.TheVariants as why

-- why a record isn't read
abbrev pub why_text : Why → List ℕ
why_text why.Columns = codes "columns"
why_text why.NotUtf8 = codes "not-utf8"
why_text why.BadName = codes "bad-name"
why_text why.BadNumber = codes "bad-number"
why_text why.OutOfRange = codes "out-of-range"
why_text why.UnknownLocation = codes "unknown-location"
why_text why.LocationTwice = codes "location-twice"
why_text why.UnknownArticle = codes "unknown-article"
why_text why.UnknownCommand = codes "unknown-command"
why_text why.DeskNumber = codes "desk-number"
why_text why.TooManyRows = codes "too-many-rows"
why_text why.TooManyPlaces = codes "too-many-places"
why_text why.TooManyOrders = codes "too-many-orders"
why_text why.TooManyLines = codes "too-many-lines"
why_text why.TooManyWaves = codes "too-many-waves"
why_text why.Memory = codes "memory"

-- there was no memory
abbrev pub wants_memory : Why → Bool
wants_memory why.Memory = true
wants_memory other = false

-- the record's number, and why it isn't read
abbrev pub row_fault_text : RowFault → List ℕ
row_fault_text fault = codes "row " ++ decimal fault.row ++ codes " " ++ why_text fault.why
