-- What a walk over the rows of a table has left.
use Rattle.std.specs.Prelude.{ℕ, List, ◌++◌, drop}
use Rattle.own_model.specs.Db.{Row}

-- what is left of a run, and the rows from a place on
abbrev pub rows_left : List Row → ℕ → List Row → List Row
rows_left run behind rows = run ++ drop behind rows
