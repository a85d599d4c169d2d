-- The names of rows that an index lends.
use Rattle.own_base.specs.declared.number.TableNo.{TableNo}
use Rattle.own_base.specs.declared.row_name.RowName.{RowName}
use Rattle.own_base.specs.declared.value.Key.{Key}

-- the row of a table that has this key
abbrev pub named : TableNo → Key → RowName
named table key = record { table = table; key = key }

-- the row of an entry, a value and the row's key
abbrev pub entry_name : TableNo → Key × Key → RowName
entry_name table entry = named table entry.1
