-- What becomes of the row of a name when a subject is forgotten.
use Rattle.std.specs.Prelude.{Option, None, Some, slice_get, if◌then◌else◌}
use Rattle.std.specs.Option.{option_and_then}
use Rattle.own_base.specs.declared.change.Change.{Change}
use Rattle.own_base.specs.declared.row_name.RowName.{RowName}
use Rattle.own_model.specs.Db.{Db, Row}
use Rattle.owner_model.specs.Joins.{row_of}
use Rattle.subject_model.specs.Named.{NamedRow}
use Rattle.subject_model.specs.Stays.{stays}
use Rattle.subject_erase.specs.Erasures.{erased, removal}

-- a row, with its name
abbrev pub as_named : RowName → Row → NamedRow
as_named name row = record { name = name; row = row }

-- the change of the row, where there is a row and anything becomes of it
unfoldable pub change_at : Db → RowName → RowName → Option Change
change_at db subject name = option_and_then (λ table. option_and_then (λ row. erased db subject table (as_named name row)) (row_of db name)) (slice_get db.schema.tables name.table.0)

-- that it goes, where there is a row that doesn't stay
unfoldable pub removal_at : Db → RowName → RowName → Option Change
removal_at db subject name = option_and_then (λ row. if stays db subject name then None else Some (removal (as_named name row))) (row_of db name)
