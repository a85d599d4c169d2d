-- The count of an object's faults.
use Rattle.std.specs.Prelude.{ℕ, ◌+◌, ◌-◌, ◌^◌, ◌<◌, min}

-- one more, up to the greatest u64
abbrev pub one_higher : ℕ → ℕ
one_higher count = min (count + 1) (2 ^ 64 - 1)

-- the count rose, unless it stands at the greatest u64
abbrev pub CountRose : ℕ → ℕ → Type 0
CountRose before after = after < 2 ^ 64 - 1 → before < after
