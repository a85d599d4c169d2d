-- What crashes leave that come after a moment.
use Rattle.std.specs.Prelude.{ℕ, ◌≤◌, List}

-- Of whatever two areas a crash might have left, from this moment to now, this holds.
pub record LeavesSince {D : Type 0} (moment : D → ℕ) (might_have_left : D → ℕ → List ℕ → List ℕ → Type 0) (since : ℕ) (allowed : List ℕ → List ℕ → Type 0) (disk : D) : Type 0 where
  pub later : since ≤ moment disk
  pub each : (a b : List ℕ) → might_have_left disk since a b → allowed a b
