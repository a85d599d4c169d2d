-- Lists of names that are put in order.
use Rattle.std.specs.Prelude.{◌↔◌, ◌==◌, Bool, List, Contains}
use Rattle.std.specs.List.Sorted.{IsStrictlySortedBy}
use Rattle.own_base.specs.declared.number.TableNo.{TableNo}
use Rattle.own_base.specs.declared.row_name.RowName.{RowName}
use Rattle.subject_model.specs.NameOrder.{name_cmp}

-- whether a name is of a table
abbrev pub is_of : TableNo → RowName → Bool
is_of table name = name.table.0 == table.0

-- the same names
abbrev pub HasSame : List RowName → List RowName → Type 0
HasSame given names = (name : RowName) → Contains names name ↔ Contains given name

-- the same names, rising, each once
pub record AreTidied (given names : List RowName) : Type 0 where
  pub rising : IsStrictlySortedBy name_cmp names
  pub same : HasSame given names
