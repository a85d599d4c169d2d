-- What becomes of each row when a subject is forgotten.
use Rattle.std.specs.Prelude.{ℕ, ◌+◌, List, [], ◌∷◌, ◌++◌, Bool, not, ◌&&◌, Option, None, Some, filter_map, if◌then◌else◌}
use Rattle.std.specs.List.{enumerate_from, list_any}
use Rattle.own_base.specs.declared.change.Change.{Change}
use Rattle.own_base.specs.declared.row_name.RowName.{RowName}
use Rattle.own_model.specs.declared.schema.TableDef.{TableDef}
use Rattle.own_model.specs.Db.{Db, Row}
use Rattle.query_model.specs.Truth.{is_null}
use Rattle.subject_model.specs.Forget.{left_of, loses}
use Rattle.subject_model.specs.Named.{NamedRow, rows_in}
use Rattle.subject_model.specs.Stays.{stays}

-- whether a row loses a value that isn't NULL
abbrev pub loses_some : Db → RowName → TableDef → NamedRow → Bool
loses_some db subject table named = list_any (λ numbered. loses db subject table named.name numbered && not (is_null numbered.1)) (enumerate_from 0 named.row)

-- that a row goes, and that it is left without some values
abbrev pub removal : NamedRow → Change
removal named = record { name = named.name; before = Some named.row; after = None }

abbrev pub blanking : NamedRow → Row → Change
blanking named left = record { name = named.name; before = Some named.row; after = Some left }

-- A row that doesn't stay goes, and one that stays is left without what it loses. Nothing becomes of one that loses nothing.
abbrev pub erased : Db → RowName → TableDef → NamedRow → Option Change
erased db subject table named =
    if stays db subject named.name then (if loses_some db subject table named then Some (blanking named (left_of db subject table named)) else None)
    else Some (removal named)

-- what becomes of the rows of a table
abbrev pub erased_in : Db → RowName → ℕ → TableDef → List Row → List Change
erased_in db subject number table rows = filter_map (erased db subject table) (rows_in number table rows)

-- and of those of tables that are numbered from here on
unfoldable pub erased_from : Db → RowName → ℕ → List TableDef → List (List Row) → List Change
erased_from db subject number [] rows = []
erased_from db subject number (table ∷ tables) [] = []
erased_from db subject number (table ∷ tables) (rows ∷ rest) = erased_in db subject number table rows ++ erased_from db subject (number + 1) tables rest

-- and of all rows, by table, then key
abbrev pub erasures : Db → RowName → List Change
erasures db subject = erased_from db subject 0 db.schema.tables db.rows
