-- What stands of one row on the shelf of a subject, and in what it sees.
use Rattle.std.specs.Prelude.{Option, None, Some, if◌then◌else◌}
use Rattle.std.specs.Option.{option_and_then}
use Rattle.own_base.specs.declared.row_name.RowName.{RowName}
use Rattle.own_model.specs.Db.{Db}
use Rattle.owner_model.specs.Joins.{row_of}
use Rattle.subject_model.specs.Owners.{owns}
use Rattle.shelf_model.specs.declared.shelved.Shelved.{Shelved}
use Rattle.shelf_model.specs.Seen.{sees}
use Rattle.shelf_model.specs.Shelf.{shelved}

-- the copy of a row that is there, where the subject owns it
abbrev pub copy_at : Db → RowName → RowName → Option Shelved
copy_at db subject name =
    option_and_then (λ row. if owns db subject name then Some (shelved db subject (record { name = name; row = row })) else None) (row_of db name)

-- the name of a row that is there, where the subject reaches it and doesn't own it
abbrev pub seen_at : Db → RowName → RowName → Option RowName
seen_at db subject name = option_and_then (λ row. if sees db subject name then Some name else None) (row_of db name)
