-- What the faults of open files are told as.
use Rattle.std.specs.Prelude.{◌++◌, Bool, false, List, ℕ, codes}
use Rattle.std.specs.Fmt.{decimal}
use Rattle.wp_tables.specs.Faults as table
use Rattle.wp_waves.specs.declared.fault.OpenFileFault.{OpenFileFault}
use Rattle.wp_waves.specs.declared.fault.OpenWhy.{OpenWhy}
use Rattle.wp_waves.specs.declared.fault.OpenWhy.TheVariants as why

-- why a record isn't read
abbrev pub why_text : OpenWhy → List ℕ
why_text (why.Table w) = table.why_text w
why_text why.UnknownOrder = codes "unknown-order"
why_text why.OrderTwice = codes "order-twice"

-- there was no memory
abbrev pub wants_memory : OpenWhy → Bool
wants_memory (why.Table w) = table.wants_memory w
wants_memory why.UnknownOrder = false
wants_memory why.OrderTwice = false

-- the record's number, and why it isn't read
abbrev pub fault_text : OpenFileFault → List ℕ
fault_text fault = codes "row " ++ decimal fault.row ++ codes " " ++ why_text fault.why
