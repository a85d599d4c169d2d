-- What is damaged in a part is damaged in the whole.
use Rattle.std.proofs.Common.{ℕ}
use Rattle.crash_recover.specs.declared.fault.AreaFault.{AreaFault}
use Rattle.crash_recover.specs.declared.fault.AreaFault.TheVariants.{Memory, Damaged}
use Rattle.crash_recover.specs.Fault.{IsFault}

pub fault_weaker : (P Q : ℕ → Type 0) (fault : AreaFault) → ((offset : ℕ) → P offset → Q offset) → IsFault P fault → IsFault Q fault
fault_weaker P Q Memory weaker is = tt
fault_weaker P Q (Damaged offset) weaker is = weaker offset is
