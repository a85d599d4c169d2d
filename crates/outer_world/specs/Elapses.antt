-- How time goes on over a call.
use Rattle.std.specs.Prelude.{ℕ, ◌≤◌, ◌⊎◌, List}
use Rattle.own_base.specs.declared.number.Area.{Area}
use Rattle.own_base.specs.declared.number.Area.TheVariants.{A, B}

-- The moment doesn't fall. What a crash since an earlier moment might have left is what it might have left before the
-- call, or what a crash now may leave; and none of the former is forgotten.
pub record Elapses {D : Type 0} (leaves : D → Area → List ℕ → Type 0) (moment : D → ℕ) (might_have_left : D → ℕ → List ℕ → List ℕ → Type 0) (old new : D) : Type 0 where
  pub later : moment old ≤ moment new
  pub nothing_else : (since : ℕ) (a b : List ℕ) → since ≤ moment old → might_have_left new since a b
      → might_have_left old since a b ⊎ (leaves new A a × leaves new B b)
  pub none_forgotten : (since : ℕ) (a b : List ℕ) → since ≤ moment old → might_have_left old since a b → might_have_left new since a b
