-- Why the program ended, and its exit status.
use Rattle.std.specs.Prelude.{ℕ, Option, None, Some}
use Rattle.shell_session.specs.Status.{status_of}
use Rattle.store_shell.specs.declared.ending.Fault.{Fault}
use Rattle.store_shell.specs.declared.ending.Fault.TheVariants.{Usage, Shell}

-- 0, or the number of the fault
abbrev pub ended_status : Option Fault → ℕ
ended_status None = 0
ended_status (Some Usage) = 2
ended_status (Some (Shell fault)) = status_of (Some fault)
