-- What an index of a store represents.
use Rattle.std.specs.Prelude.{ℕ, List, Bool, ◌==◌, ◌&&◌, IsTrue}
use Rattle.std.specs.List.{AllByRecursion, list_any}
use Rattle.own_model.specs.Db.{Db}
use Rattle.link_model.specs.Indexed.{is_indexed_at}
use Rattle.ref_index.specs.IndexOf.{IsIndexOf, rows_under}
use Rattle.ref_index.specs.declared.column_index.ColumnIndex.{ColumnIndex}

-- whether it is the index of a column, by its number and that of its table
abbrev pub is_of : ℕ → ℕ → ColumnIndex → Bool
is_of table column one = one.table.0 == table && one.column.0 == column

-- the index of each column is one of the rows of its table, and each indexed column has one
pub record Stands (db : Db) (index : List ColumnIndex) : Type 0 where
  pub each : AllByRecursion (λ one. IsIndexOf one.column.0 (rows_under db one.table.0) one.pairs) index
  pub covers : (table column : ℕ) → IsTrue (is_indexed_at db.schema table column) → IsTrue (list_any (is_of table column) index)
