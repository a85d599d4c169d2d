-- Why a run ended, and its exit status.
use Rattle.std.specs.Prelude.{ℕ, Bool, true, false, Option, None, Some, Result, Ok, Err}
use Rattle.crash_recover.specs.declared.open.OpenFault.{OpenFault}
use Rattle.crash_recover.specs.declared.open.OpenFault.TheVariants as opening
use Rattle.store_top.specs.declared.served.TopFault.{TopFault}
use Rattle.store_top.specs.declared.served.TopFault.TheVariants.{Usage, Read, Write, Disk, Damaged, Input, Memory}
use Rattle.session_run.specs.declared.printing.RunFault.{RunFault}
use Rattle.session_run.specs.declared.printing.RunFault.TheVariants as running

-- 0 for a run to its end, and a number for each fault
abbrev pub status_of : Option TopFault → ℕ
status_of None = 0
status_of (Some Usage) = 2
status_of (Some Read) = 3
status_of (Some Write) = 4
status_of (Some Disk) = 5
status_of (Some (Damaged area offset)) = 6
status_of (Some (Input fault)) = 7
status_of (Some Memory) = 8

-- the fault of a run whose store was not opened
abbrev pub unopened : OpenFault → TopFault
unopened opening.DiskFault = Disk
unopened (opening.Damaged area offset) = Damaged area offset
unopened opening.Memory = Memory

-- the fault of a run by what its calls came to, and whether one was answered with a fault of the disk
abbrev pub fault_of : Result Bool RunFault → Option TopFault
fault_of (Ok false) = None
fault_of (Ok true) = Some Disk
fault_of (Err running.Write) = Some Write
fault_of (Err running.Memory) = Some Memory
