-- What a data subject sees beside its shelf.
use Rattle.std.specs.Prelude.{List, Bool, not, ◌&&◌, filter, map}
use Rattle.own_base.specs.declared.row_name.RowName.{RowName}
use Rattle.own_model.specs.Db.{Db}
use Rattle.subject_model.specs.Named.{named_rows}
use Rattle.subject_model.specs.Owners.{owns, reaches}

-- whether it reaches a row that it doesn't own
abbrev pub sees : Db → RowName → RowName → Bool
sees db subject name = reaches db subject name && not (owns db subject name)

-- the names of those rows, by table, then key
unfoldable pub seen : Db → RowName → List RowName
seen db subject = map (λ named. named.name) (filter (λ named. sees db subject named.name) (named_rows db))
