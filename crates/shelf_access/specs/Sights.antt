-- Copies of the rows that a subject sees beside its shelf.
use Rattle.std.specs.Prelude.{List, [], ◌∷◌, filter, map}
use Rattle.std.specs.Option.{option_map_or}
use Rattle.own_base.specs.declared.row_name.RowName.{RowName}
use Rattle.own_model.specs.Db.{Db}
use Rattle.owner_model.specs.Joins.{row_of}
use Rattle.subject_model.specs.Named.{named_rows}
use Rattle.shelf_model.specs.declared.shelved.Shelved.{Shelved}
use Rattle.shelf_model.specs.Seen.{sees}
use Rattle.shelf_model.specs.Shelf.{shelved}

-- of those that it reaches and doesn't own, by table, then key
unfoldable pub sights : Db → RowName → List Shelved
sights db subject = map (shelved db subject) (filter (λ named. sees db subject named.name) (named_rows db))

-- that of one row, where it is there
abbrev pub sight_of : Db → RowName → RowName → List Shelved
sight_of db subject name = option_map_or (λ row. shelved db subject (record { name = name; row = row }) ∷ []) (row_of db name) []
