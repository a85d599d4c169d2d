-- Tables that nothing is linked with.
use Rattle.std.specs.Prelude.{ℕ, Bool, false, not, ◌&&◌, ◌==◌, slice_get}
use Rattle.std.specs.List.{list_any}
use Rattle.std.specs.Option.{option_map_or}
use Rattle.own_model.specs.declared.schema.Column.{Column}
use Rattle.own_model.specs.declared.schema.Schema.{Schema}
use Rattle.own_model.specs.declared.schema.TableDef.{TableDef}
use Rattle.link_model.specs.Indexed.{is_indexed}
use Rattle.schema_model.specs.Lone.{is_lone}

-- whether a column refers to the table of this number
abbrev pub refers_to : ℕ → Column → Bool
refers_to number column = option_map_or (λ link. link.1.0 == number) column.refers false

-- whether a column of a table does
abbrev pub table_refers : ℕ → TableDef → Bool
table_refers number table = list_any (refers_to number) table.columns

-- whether a column of the table of this number is UNIQUE or refers to a table
abbrev pub links : Schema → ℕ → Bool
links schema number = option_map_or (λ table. list_any is_indexed table.columns) (slice_get schema.tables number) false

-- Whether nothing is linked with a table: none of its columns is UNIQUE or refers to a table, no column of any table refers
-- to it, it is no subject table, and no edge goes out of it or leads up to it.
unfoldable pub is_unlinked : Schema → ℕ → Bool
is_unlinked schema number = (not (links schema number) && not (list_any (table_refers number) schema.tables)) && is_lone schema number
