-- When nothing of an area can be lost.
use Rattle.std.specs.Prelude.{◌≡◌, ℕ, List}
use Rattle.own_base.specs.declared.number.Area.{Area}

-- a crash leaves in the area what a read gives, and nothing else
pub record IsSynced {D : Type 0} (holds : D → Area → List ℕ) (leaves : D → Area → List ℕ → Type 0) (area : Area) (disk : D) : Type 0 where
  pub only : (bytes : List ℕ) → leaves disk area bytes → bytes ≡ holds disk area
