-- What a GDPR FORGET leaves of a database.
use Rattle.std.specs.Prelude.{ℕ, ◌+◌, List, [], ◌∷◌, Bool, false, not, ◌&&◌, ◌||◌, Option, None, Some, filter, map, slice_get, if◌then◌else◌}
use Rattle.std.specs.List.{enumerate_from, list_any}
use Rattle.std.specs.Option.{option_map_or}
use Rattle.own_base.specs.declared.number.TableNo.{TableNo}
use Rattle.own_base.specs.declared.row_name.RowName.{RowName}
use Rattle.own_base.specs.declared.value.Key.{Key}
use Rattle.own_base.specs.declared.value.Value.{Value}
use Rattle.own_base.specs.declared.value.Value.TheVariants.{Null}
use Rattle.own_model.specs.declared.schema.Column.{Column}
use Rattle.own_model.specs.declared.schema.RefKind.{RefKind}
use Rattle.own_model.specs.declared.schema.TableDef.{TableDef}
use Rattle.own_model.specs.Db.{Db, Row}
use Rattle.owner_model.specs.RuledColumns.{is_blanked}
use Rattle.query_model.specs.Footprints.{literal_key}
use Rattle.query_model.specs.Truth.{is_null}
use Rattle.subject_model.specs.Named.{NamedRow, is_there, named_rows, rows_in}
use Rattle.subject_model.specs.Owners.{by}
use Rattle.subject_model.specs.Stays.{stays}

-- whether there is a row of this name that doesn't stay
abbrev pub is_going : Db → RowName → RowName → Bool
is_going db subject name = is_there db name && not (stays db subject name)

abbrev pub names_going : Db → RowName → TableNo → Option Key → Bool
names_going db subject table None = false
names_going db subject table (Some key) = is_going db subject (record { table = table; key = key })

-- whether a value is, in a column that refers to a table, a reference to a row that doesn't stay
abbrev pub dangles : Db → RowName → Column → Value → Bool
dangles db subject column value = by_link column.refers
  where
    by_link : Option (RefKind × TableNo) → Bool
    by_link None = false
    by_link (Some link) = names_going db subject link.1 (literal_key value)

-- whether the value in the column of a number is a reference that dangles
abbrev pub dangles_at : Db → RowName → TableDef → ℕ × Value → Bool
dangles_at db subject table numbered = option_map_or (λ column. dangles db subject column numbered.1) (slice_get table.columns numbered.0) false

-- A row that stays loses a value where an edge by which the subject reaches the row rules its column ON DEL, and where it
-- refers to a row that doesn't stay.
unfoldable pub loses : Db → RowName → TableDef → RowName → ℕ × Value → Bool
loses db subject table name numbered = is_blanked db.schema.edges (by db subject name) numbered.0 || dangles_at db subject table numbered

-- NULL stands in place of what it loses
abbrev pub left_of : Db → RowName → TableDef → NamedRow → Row
left_of db subject table named = map (λ numbered. if loses db subject table named.name numbered then Null else numbered.1) (enumerate_from 0 named.row)

-- what is left of the rows of a table
abbrev pub left_in : Db → RowName → ℕ → TableDef → List Row → List Row
left_in db subject number table rows = map (left_of db subject table) (filter (λ named. stays db subject named.name) (rows_in number table rows))

-- and of those of tables that are numbered from here on
unfoldable pub left_from : Db → RowName → ℕ → List TableDef → List (List Row) → List (List Row)
left_from db subject number [] rows = []
left_from db subject number (table ∷ tables) [] = []
left_from db subject number (table ∷ tables) (rows ∷ rest) = left_in db subject number table rows ∷ left_from db subject (number + 1) tables rest

-- the database that is left
unfoldable pub forget : Db → RowName → Db
forget db subject = record db { rows = left_from db subject 0 db.schema.tables db.rows }

-- the names of the rows that don't stay, by table, then key
unfoldable pub removed : Db → RowName → List RowName
removed db subject = map (λ named. named.name) (filter (λ named. not (stays db subject named.name)) (named_rows db))

-- whether a row that stays loses a value that isn't NULL
abbrev pub is_changed : Db → RowName → NamedRow → Bool
is_changed db subject named = option_map_or
    (λ table. list_any (λ numbered. loses db subject table named.name numbered && not (is_null numbered.1)) (enumerate_from 0 named.row))
    (slice_get db.schema.tables named.name.table.0) false

-- the names of the rows that stay with a changed value, by table, then key
unfoldable pub changed : Db → RowName → List RowName
changed db subject = map (λ named. named.name) (filter (λ named. stays db subject named.name && is_changed db subject named) (named_rows db))
