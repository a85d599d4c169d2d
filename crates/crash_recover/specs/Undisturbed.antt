-- What is left alone by calls that change nothing.
use Rattle.std.specs.Prelude.{ℕ, List}
use Rattle.own_base.specs.declared.number.Area.{Area}
use Rattle.own_base.specs.declared.number.Area.TheVariants.{A, B}
use Rattle.outer_world.specs.LeavesOnly.{LeavesOnly}
use Rattle.outer_world.specs.Stays.{Stays}

-- both areas stay, and a crash since the first state leaves what one might have left then
pub record IsUndisturbed {D : Type 0} (holds : D → Area → List ℕ) (leaves : D → Area → List ℕ → Type 0) (moment : D → ℕ) (might_have_left : D → ℕ → List ℕ → List ℕ → Type 0) (old new : D) : Type 0 where
  pub a : Stays holds leaves A old new
  pub b : Stays holds leaves B old new
  pub moments : LeavesOnly moment might_have_left (λ x y. leaves old A x × leaves old B y) old new
