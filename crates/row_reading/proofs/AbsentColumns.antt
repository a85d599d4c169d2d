-- What stands in a column of a row.
use Rattle.std.proofs.lemmas.Option.{unwrap_or-slice_get}

-- a column that the row doesn't have is NULL
pub ruleset absent_columns = (unwrap_or-slice_get)
