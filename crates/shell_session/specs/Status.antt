-- Why a shell ended, and its exit status.
use Rattle.std.specs.Prelude.{ℕ, Option, None, Some}
use Rattle.call_stream.specs.declared.fault.StreamFault.{StreamFault}
use Rattle.call_stream.specs.declared.fault.StreamFault.TheVariants as stream
use Rattle.crash_recover.specs.declared.open.OpenFault.{OpenFault}
use Rattle.crash_recover.specs.declared.open.OpenFault.TheVariants as opening
use Rattle.shell_session.specs.declared.ending.ShellFault.{ShellFault}
use Rattle.shell_session.specs.declared.ending.ShellFault.TheVariants.{Read, Write, Disk, Damaged, Input, Memory, Refused}

-- 0 where the input was read to its end, and a number for each fault
abbrev pub status_of : Option ShellFault → ℕ
status_of None = 0
status_of (Some Read) = 3
status_of (Some Write) = 4
status_of (Some Disk) = 5
status_of (Some (Damaged area offset)) = 6
status_of (Some (Input fault)) = 7
status_of (Some Memory) = 8
status_of (Some Refused) = 9

-- the fault of a shell whose store was not opened
abbrev pub unopened : OpenFault → ShellFault
unopened opening.DiskFault = Disk
unopened (opening.Damaged area offset) = Damaged area offset
unopened opening.Memory = Memory

-- the fault of a shell that met one in its input
abbrev pub stop_of : StreamFault → ShellFault
stop_of stream.Memory = Memory
stop_of (stream.NotText byte) = Input (stream.NotText byte)
stop_of (stream.BadSession byte) = Input (stream.BadSession byte)
stop_of (stream.TooManyCalls byte) = Input (stream.TooManyCalls byte)
stop_of stream.TooLong = Input stream.TooLong
