-- The numbers that are drawn from a seed.
use Rattle.std.specs.Prelude.{ℕ, ◌*◌, ◌%◌, zero, suc}

-- the number behind this one
abbrev pub next_draw : ℕ → ℕ
next_draw number = number * 16807 % 2147483647

-- the number at which so many draws from a seed arrive
unfoldable pub after_draws : ℕ → ℕ → ℕ
after_draws seed zero = seed
after_draws seed (suc draws) = next_draw (after_draws seed draws)

-- one of so many numbers from 0, drawn behind so many others
abbrev pub draw : ℕ → ℕ → ℕ → ℕ
draw seed before most = after_draws seed (suc before) % most
