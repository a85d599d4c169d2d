-- Names of tables, views and columns, as a schema keeps them.
use Rattle.std.specs.Prelude.{ℕ, ◌≤◌, List, [], ◌∷◌, length, IsTrue, Bool, false, nat_le, ◌==◌, ◌||◌, ◌&&◌}
use Rattle.std.specs.List.{list_all}
use Rattle.own_base.specs.declared.text.TheConstants.{NAME_BYTES}

-- a lower-case letter of ASCII, or `_`
abbrev pub begins_name : ℕ → Bool
begins_name byte = (nat_le 97 byte && nat_le byte 122) || (byte == 95)

-- such a byte, or a digit
abbrev pub continues_name : ℕ → Bool
continues_name byte = begins_name byte || (nat_le 48 byte && nat_le byte 57)

-- a lower-case letter or `_`, and then lower-case letters, digits or `_`
abbrev pub is_spelled : List ℕ → Bool
is_spelled [] = false
is_spelled (first ∷ rest) = begins_name first && list_all continues_name rest

-- how a schema spells a name, in at most that many bytes
pub record IsName (bytes : List ℕ) : Type 0 where
  pub spelled : IsTrue (is_spelled bytes)
  pub short : length bytes ≤ NAME_BYTES
