-- The copy of a row, whoever owns it.
use Rattle.std.specs.Prelude.{Option, Some}
use Rattle.std.specs.Option.{option_and_then}
use Rattle.own_base.specs.declared.row_name.RowName.{RowName}
use Rattle.own_model.specs.Db.{Db}
use Rattle.owner_model.specs.Joins.{row_of}
use Rattle.shelf_model.specs.declared.shelved.Shelved.{Shelved}
use Rattle.shelf_model.specs.Shelf.{shelved}

-- of a row that is there, with the edges by which a subject reaches it
abbrev pub copy_of : Db → RowName → RowName → Option Shelved
copy_of db subject name = option_and_then (λ row. Some (shelved db subject (record { name = name; row = row }))) (row_of db name)
