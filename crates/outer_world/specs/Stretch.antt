-- Places that stand one behind another.
use Rattle.std.specs.Prelude.{ℕ, ◌≤◌, ◌<◌, ◌⊎◌}

-- the places from the first one on, up to the end, which is not one of them
pub record Stretch : Type 0 where
  pub start : ℕ
  pub end : ℕ

-- the place isn't one of them
abbrev pub IsOutside : ℕ → Stretch → Type 0
IsOutside place stretch = (place < stretch.start) ⊎ (stretch.end ≤ place)
