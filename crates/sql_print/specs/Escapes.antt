-- Which bytes of a text a reply escapes.
use Rattle.std.specs.Prelude.{ℕ, Bool, nat_lt, ◌==◌, ◌||◌}

-- a quote, a byte below 32, 127 and the backslash
abbrev pub is_escaped : ℕ → Bool
is_escaped byte = (byte == 39) || (nat_lt byte 32 || byte == 127 || byte == 92)
