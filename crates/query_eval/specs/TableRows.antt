-- The rows of a table that are still to come.
use Rattle.std.specs.Prelude.{ℕ, List, ◌++◌, drop}
use Rattle.own_model.specs.Db.{Row}

-- a run, and what stands behind it
abbrev pub rows_left : List Row → ℕ → List Row → List Row
rows_left run behind rows = run ++ drop behind rows
