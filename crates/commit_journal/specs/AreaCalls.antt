-- What a few calls of a disk do to one of its areas.
use Rattle.std.specs.Prelude.{◌≡◌, ℕ, ◌+◌, ◌⊎◌, List, length, take}
use Rattle.own_base.specs.declared.number.Area.{Area}
use Rattle.own_base.specs.declared.number.Area.TheVariants.{A, B}
use Rattle.outer_world.specs.IsSynced.{IsSynced}
use Rattle.outer_world.specs.Overwritten.{overwritten}
use Rattle.outer_world.specs.Torn.{Torn}
use Rattle.outer_world.specs.OtherArea.{other_of, bytes_in}

-- nothing of either area can be lost
pub record AreSynced {D : Type 0} (holds : D → Area → List ℕ) (leaves : D → Area → List ℕ → Type 0) (disk : D) : Type 0 where
  pub a : IsSynced holds leaves A disk
  pub b : IsSynced holds leaves B disk

-- the area has these bytes now, the other those that it had, and nothing can be lost
pub record IsMade {D : Type 0} (holds : D → Area → List ℕ) (leaves : D → Area → List ℕ → Type 0) (area : Area) (bytes : List ℕ) (old new : D) : Type 0 where
  pub here : holds new area ≡ bytes
  pub beside : holds new (other_of area) ≡ holds old (other_of area)
  pub synced : AreSynced holds leaves new

-- of what a crash left in A and in B: this holds of what it left in the area, and in the other stands what stood there
pub record OnlyIn (area : Area) (allowed : List ℕ → Type 0) (beside : List ℕ) (a b : List ℕ) : Type 0 where
  pub here : allowed (bytes_in area a b)
  pub stays : bytes_in (other_of area) a b ≡ beside

-- the same bytes up to a place
abbrev pub IsFront : ℕ → List ℕ → List ℕ → Type 0
IsFront place old new = take place new ≡ take place old

-- of an area with a closed gate at this place: the bytes that are written behind the gate are torn, or they stand there
-- and the gate is torn
abbrev pub IsAdding : List ℕ → ℕ → List ℕ → List ℕ → Type 0
IsAdding old gate framed new =
    Torn (gate + 1) (length framed) old new ⊎ Torn gate 1 (overwritten old (gate + 1) framed) new
