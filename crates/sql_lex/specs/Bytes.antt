-- The kinds of bytes that tokens are made of.
use Rattle.std.specs.Prelude.{ℕ, Bool, false, ◌==◌, ◌||◌, List, [], ◌∷◌}
use Rattle.std.specs.Char.{is_ascii_alphabetic, is_ascii_alphanumeric}

-- a space, a tab, or an end of line
abbrev pub is_space : ℕ → Bool
is_space byte = byte == 32 || byte == 9 || byte == 10 || byte == 13

-- a letter or `_`
abbrev pub begins_word : ℕ → Bool
begins_word byte = is_ascii_alphabetic byte || byte == 95

-- a letter, a digit or `_`
abbrev pub continues_word : ℕ → Bool
continues_word byte = is_ascii_alphanumeric byte || byte == 95

-- the first of the bytes passes the test
abbrev pub first_passes : (ℕ → Bool) → List ℕ → Bool
first_passes test [] = false
first_passes test (byte ∷ bytes) = test byte
