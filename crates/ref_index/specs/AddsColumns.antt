-- Indexes of the columns of a table without rows, behind others.
use Rattle.std.specs.Prelude.{◌≡◌, ◌<◌, ℕ, List, [], ◌++◌, IsTrue, Some, slice_get}
use Rattle.std.specs.List.{AllByRecursion, list_any}
use Rattle.own_base.specs.declared.number.TableNo.{TableNo}
use Rattle.own_model.specs.declared.schema.Column.{Column}
use Rattle.link_model.specs.Indexed.{is_indexed}
use Rattle.ref_index.specs.Stands.{is_of}
use Rattle.ref_index.specs.declared.column_index.ColumnIndex.{ColumnIndex}

-- the indexes of a table, which have no entry, one for each indexed column of a number below this one
pub record AddsColumns (table : TableNo) (columns : List Column) (count : ℕ) (before after : List ColumnIndex) : Type 0 where
  pub new : List ColumnIndex
  pub behind : after ≡ before ++ new
  pub theirs : AllByRecursion (λ one. (one.table ≡ table) × (one.pairs ≡ [])) new
  pub covers : (number : ℕ) (column : Column) → number < count → slice_get columns number ≡ Some column → IsTrue (is_indexed column) → IsTrue (list_any (is_of table.0 number) new)
