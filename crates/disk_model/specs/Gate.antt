-- The byte in front of what may count or not.
use Rattle.std.specs.Prelude.{◌≡◌, ◌≢◌, ℕ}

-- what stands behind it counts
abbrev pub IsOpenGate : ℕ → Type 0
IsOpenGate gate = gate ≡ 1

-- whatever stands behind it doesn't count
abbrev pub IsClosedGate : ℕ → Type 0
IsClosedGate gate = gate ≢ 1
