-- What a call leaves alone.
use Rattle.std.specs.Prelude.{◌≡◌, ◌≢◌, ℕ, List}
use Rattle.own_base.specs.declared.number.Area.{Area}

-- the area reads as before, and a crash leaves nothing there that it might not have left before: `holds` says what a
-- disk's reads give
pub record Stays {D : Type 0} (holds : D → Area → List ℕ) (leaves : D → Area → List ℕ → Type 0) (area : Area) (old new : D) : Type 0 where
  pub same : holds new area ≡ holds old area
  pub no_more : (bytes : List ℕ) → leaves new area bytes → leaves old area bytes

-- every area but this one stays
pub record StaysBeside {D : Type 0} (holds : D → Area → List ℕ) (leaves : D → Area → List ℕ → Type 0) (area : Area) (old new : D) : Type 0 where
  pub each : (other : Area) → other ≢ area → Stays holds leaves other old new
