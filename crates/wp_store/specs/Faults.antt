-- What the faults of disks and stores are told as.
use Rattle.std.specs.Prelude.{ℕ, List, codes}
use Rattle.wp_store.specs.declared.disk.DiskFault.{DiskFault}
use Rattle.wp_store.specs.declared.disk.DiskFault.TheVariants as disk
use Rattle.wp_store.specs.declared.faults.OpenFault.{OpenFault}
use Rattle.wp_store.specs.declared.faults.OpenFault.TheVariants as opening
use Rattle.wp_store.specs.declared.faults.AppendFault.{AppendFault}
use Rattle.wp_store.specs.declared.faults.AppendFault.TheVariants as append

-- why a disk was not read
abbrev pub disk_fault_text : DiskFault → List ℕ
disk_fault_text disk.Failed = codes "the disk failed"
disk_fault_text disk.TooLong = codes "the file on the disk is too long"
disk_fault_text disk.Memory = codes "out of memory"

-- why a store was not opened
abbrev pub open_fault_text : OpenFault → List ℕ
open_fault_text opening.Disk = codes "the disk failed"
open_fault_text opening.TooLong = codes "the file on the disk is too long"
open_fault_text opening.Memory = codes "out of memory"

-- why a record was not stored
abbrev pub append_fault_text : AppendFault → List ℕ
append_fault_text append.Disk = codes "the disk failed"
append_fault_text append.Broken = codes "the store is to be opened again"

-- what a disk that isn't read is to whoever opens a store
abbrev pub open_fault_of : DiskFault → OpenFault
open_fault_of disk.Failed = opening.Disk
open_fault_of disk.TooLong = opening.TooLong
open_fault_of disk.Memory = opening.Memory
