-- What is said of a disk, for the calls that are made over it.
use Rattle.std.specs.Prelude.{ℕ, List, Bool}
use Rattle.own_base.specs.declared.number.Area.{Area}

-- What a crash now may leave in an area; the moment; what a crash since a moment might have left in the two areas; whether what the
-- disk tells of its bytes is so; and the count of its faults.
pub record DiskView (D : Type 0) : Type 1 where
  pub leaves : D → Area → List ℕ → Type 0
  pub moment : D → ℕ
  pub might_have_left : D → ℕ → List ℕ → List ℕ → Type 0
  pub honest : D → Bool
  pub faults : D → ℕ

abbrev pub view_of : {D : Type 0} → (D → Area → List ℕ → Type 0) → (D → ℕ) → (D → ℕ → List ℕ → List ℕ → Type 0) → (D → Bool) → (D → ℕ) → DiskView D
view_of leaves moment might_have_left honest faults =
    record { leaves = leaves; moment = moment; might_have_left = might_have_left; honest = honest; faults = faults }
