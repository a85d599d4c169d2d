-- Why an input isn't read whole.
use Rattle.std.proofs.Common.{◌≡◌, Result, Err}
use Rattle.outer_world.specs.declared.reading.ReadAllFault.{ReadAllFault}
use Rattle.outer_world.specs.declared.reading.ReadAllFault.TheVariants.{Failed, Memory}

-- want of memory is no fault of the source
pub memory_no_fault : {A : Type 0} → ◌≡◌ {A = Result A ReadAllFault} (Err Memory) (Err Failed) → ⊥
memory_no_fault is = cc
