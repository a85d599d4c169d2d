-- The shelf of a data subject.
use Rattle.std.specs.Prelude.{List, filter, map}
use Rattle.own_base.specs.declared.row_name.RowName.{RowName}
use Rattle.own_model.specs.Db.{Db}
use Rattle.subject_model.specs.Named.{NamedRow, named_rows}
use Rattle.subject_model.specs.Owners.{by, owns}
use Rattle.shelf_model.specs.declared.shelved.Shelved.{Shelved}

-- a copy of a row, with the edges by which a subject reaches it
abbrev pub shelved : Db → RowName → NamedRow → Shelved
shelved db subject named = record { name = named.name; row = named.row; by = by db subject named.name }

-- copies of the rows that a subject owns, by table, then key
unfoldable pub shelf : Db → RowName → List Shelved
shelf db subject = map (shelved db subject) (filter (λ named. owns db subject named.name) (named_rows db))
