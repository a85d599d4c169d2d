-- Whether a path leads on from a row that it enters.
use Rattle.std.specs.Prelude.{Bool, if◌then◌else◌}
use Rattle.own_base.specs.declared.row_name.RowName.{RowName}
use Rattle.own_model.specs.Db.{Db}
use Rattle.schema_model.specs.Tables.{is_subject}
use Rattle.subject_model.specs.Named.{is_name}
use Rattle.subject_model.specs.Owners.{reaches}

-- to a subject: where the row is of a subject table it is the subject itself, and else the subject reaches it
abbrev pub leads_on : Db → RowName → RowName → Bool
leads_on db subject upper = if is_subject db.schema upper.table.0 then is_name upper subject else reaches db subject upper
