-- What a subject is shown of some rows.
use Rattle.std.specs.Prelude.{List, filter, map}
use Rattle.own_base.specs.declared.row_name.RowName.{RowName}
use Rattle.own_model.specs.declared.reply.GotRow.{GotRow}
use Rattle.own_model.specs.Db.{Db}
use Rattle.subject_model.specs.Get.{got_row}
use Rattle.subject_model.specs.Named.{NamedRow}
use Rattle.subject_model.specs.Owners.{reaches}

-- those that it reaches
unfoldable pub shown_of : Db → RowName → List NamedRow → List GotRow
shown_of db subject rows = map (got_row db subject) (filter (λ named. reaches db subject named.name) rows)
