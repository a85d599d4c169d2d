-- Tables whose rows are merged with the changes of a transaction.
use Rattle.std.specs.Prelude.{◌≡◌, List}
use Rattle.std.specs.List.{AllByRecursion}
use Rattle.own_model.specs.Db.{Row}
use Rattle.own_model.specs.Stored.{rows_at}
use Rattle.txn_space.specs.declared.merged.MergedTable.{MergedTable}

-- each has the rows of its table
abbrev pub AreMerged : List (List Row) → List MergedTable → Type 0
AreMerged rows tables = AllByRecursion (λ merged. merged.rows ≡ rows_at rows merged.table.0) tables
