-- What the faults of files and sinks are told as.
use Rattle.std.specs.Prelude.{ℕ, List, codes}
use Rattle.wp_outside.specs.declared.files.FileFault.{FileFault}
use Rattle.wp_outside.specs.declared.files.FileFault.TheVariants as file
use Rattle.wp_outside.specs.declared.sink.SinkFault.{SinkFault}
use Rattle.wp_outside.specs.declared.sink.SinkFault.TheVariants as sink

-- why a file was not read
abbrev pub file_fault_text : FileFault → List ℕ
file_fault_text file.Failed = codes "the file could not be read"
file_fault_text file.TooLong = codes "the file is too long"
file_fault_text file.Memory = codes "out of memory"

-- why a piece was not taken
abbrev pub sink_fault_text : SinkFault → List ℕ
sink_fault_text sink.Failed = codes "the output could not be written"
sink_fault_text sink.Memory = codes "out of memory"
