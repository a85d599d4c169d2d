-- What crashes leave that come while calls are made.
use Rattle.std.specs.Prelude.{ℕ, ◌≤◌, ◌⊎◌, List}

-- Between the two states a crash leaves two areas of which this holds, and nothing else. So does one since an earlier
-- moment, but for what it might have left before the first of the states.
pub record LeavesOnly {D : Type 0} (moment : D → ℕ) (might_have_left : D → ℕ → List ℕ → List ℕ → Type 0) (allowed : List ℕ → List ℕ → Type 0) (old new : D) : Type 0 where
  pub later : moment old ≤ moment new
  pub between : (a b : List ℕ) → might_have_left new (moment old) a b → allowed a b
  pub earlier : (since : ℕ) (a b : List ℕ) → since ≤ moment old → might_have_left new since a b
      → might_have_left old since a b ⊎ allowed a b
