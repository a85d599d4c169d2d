-- Which rows of a store stay, by flags.
use Rattle.std.specs.Prelude.{ℕ, Bool, not, ◌&&◌, ◌||◌}
use Rattle.std.specs.List.{list_any}
use Rattle.own_base.specs.declared.row_name.RowName.{RowName}
use Rattle.own_model.specs.declared.schema.Schema.{Schema}
use Rattle.own_model.specs.Db.{Db}
use Rattle.schema_model.specs.Tables.{is_private, is_subject}
use Rattle.subject_model.specs.Paths.{paths}
use Rattle.subject_model.specs.Stays.{holds}

-- whether another subject than the one that is forgotten holds a row
abbrev pub is_claimed : Db → RowName → RowName → Bool
is_claimed db subject name = list_any (holds db subject name) (paths db name)

-- whether the rows of a table are data subjects, and a row of it, that the subject owns or not, is another one
abbrev pub is_other_subject : Schema → ℕ → Bool → Bool
is_other_subject schema table owned = is_subject schema table && not owned

-- whether a row stays that the subject owns or not, and that another holds or not: none but the subject itself owns a
-- subject row
abbrev pub stays_by : Schema → ℕ → Bool → Bool → Bool
stays_by schema table owned claimed = not (is_subject schema table && owned) && (not (is_private schema table) || claimed)
