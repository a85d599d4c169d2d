-- What a call adds to what a crash may leave.
use Rattle.std.specs.Prelude.{ℕ, List}
use Rattle.own_base.specs.declared.number.Area.{Area}

-- what a crash may leave in the area now is what it might leave there before the call, after this step: `leaves` says
-- what a crash of a disk may leave
pub record Follows {D : Type 0} (leaves : D → Area → List ℕ → Type 0) (area : Area) (step : List ℕ → List ℕ → Type 0) (old new : D) : Type 0 where
  pub each : (bytes : List ℕ) → leaves new area bytes → (before : List ℕ) × leaves old area before × step before bytes
