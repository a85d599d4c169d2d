-- Tables whose rows are few enough to count them with those of a transaction.
use Rattle.std.specs.Prelude.{ℕ, ◌<◌, ◌^◌, List, length}
use Rattle.own_model.specs.Db.{Row}
use Rattle.own_model.specs.Stored.{rows_at}

-- each table, by its number, has fewer than 2 to the power of 63
abbrev pub AreFew : List (List Row) → Type 0
AreFew rows = (number : ℕ) → length (rows_at rows number) < 2 ^ 63
