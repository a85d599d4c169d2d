-- Rows that are enough to tell that there are too many.
use Rattle.std.specs.Prelude.{◌≡◌, ℕ, Bool, false, List, [], ◌++◌, Option, None, Some, length, nat_lt}
use Rattle.own_model.specs.Db.{Row}

-- whether there are more rows than are asked for
abbrev pub is_past : Option ℕ → List Row → Bool
is_past None rows = false
is_past (Some most) rows = nat_lt most (length rows)

-- all of some rows, or the first of them, more than are asked for
pub record IsEnough (most : Option ℕ) (rows kept : List Row) : Type 0 where
  pub rest : List Row
  pub first : rows ≡ kept ++ rest
  pub all : is_past most kept ≡ false → rest ≡ []
