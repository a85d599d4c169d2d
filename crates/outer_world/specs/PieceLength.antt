-- How long a piece is that one call moves.
use Rattle.std.specs.Prelude.{ℕ, Option, Some, None, min}

-- so many bytes, or the most that a call moves, where there is such a bound
abbrev pub piece_length : Option ℕ → ℕ → ℕ
piece_length None count = count
piece_length (Some most) count = min most count
