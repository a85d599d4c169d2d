-- The row that a condition is over.
use Rattle.std.specs.Prelude.{◌++◌, Option, None, Some}
use Rattle.own_model.specs.Db.{Row}

-- a row, or in a join that of the left table and that of the right one behind it
abbrev pub whole_row : Row → Option Row → Row
whole_row left None = left
whole_row left (Some right) = left ++ right
