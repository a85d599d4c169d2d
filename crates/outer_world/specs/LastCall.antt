-- How a run of calls ends.
use Rattle.std.specs.Prelude.{◌≡◌, ℕ}

-- the last call failed, and those before it met no fault: `faults` is an object's count, and `fails` holds of its states
-- before and after a call that fails
abbrev pub EndsInFault : {S : Type 0} → (S → ℕ) → (S → S → Type 0) → S → S → Type 0
EndsInFault {S} faults fails old new = (before : S) × (faults before ≡ faults old) × fails before new
