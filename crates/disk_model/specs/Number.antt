-- Formats, and numbers as bytes.
use Rattle.std.specs.Prelude.{◌≡◌, ℕ, zero, suc, ◌+◌, ◌*◌, ◌<◌, ℤ, List, [], ◌∷◌}
use Rattle.std.specs.Int.{w64, cast_signed}

-- a value, the bytes from here on, and those after it
abbrev pub Format : Type 0 → Type 1
Format A = A → List ℕ → List ℕ → Type 0

-- a number of so many bytes more, the highest first, behind bytes that say `above`
abbrev pub IsNumberBehind : ℕ → ℕ → Format ℕ
IsNumberBehind above zero number bytes rest = (number ≡ above) × (bytes ≡ rest)
IsNumberBehind above (suc count) number [] rest = ⊥
IsNumberBehind above (suc count) number (byte ∷ bytes) rest = (byte < 256) × IsNumberBehind (above * 256 + byte) count number bytes rest

-- a number of so many bytes, the highest first
abbrev pub IsNumber : ℕ → Format ℕ
IsNumber count number bytes rest = IsNumberBehind 0 count number bytes rest

-- a signed number of eight bytes, as two's complement
abbrev pub IsSigned : Format ℤ
IsSigned number bytes rest = (bits : ℕ) × IsNumber 8 bits bytes rest × (number ≡ cast_signed w64 bits)
