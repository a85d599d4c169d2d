-- Whose a row is, as subjects.
use Rattle.std.specs.Prelude.{List, map}
use Rattle.own_base.specs.declared.row_name.RowName.{RowName}
use Rattle.own_base.specs.declared.row_name.Subject.{Subject}
use Rattle.own_model.specs.Db.{Db}
use Rattle.subject_model.specs.Owners.{owners, reach}

-- a row's name as a subject
abbrev pub as_subject : RowName → Subject
as_subject name = record { 0 = name }

-- the subjects that own a row, by table, then by key
abbrev pub owners_at : Db → RowName → List Subject
owners_at db name = map as_subject (owners db name)

-- and those that reach it
abbrev pub reach_at : Db → RowName → List Subject
reach_at db name = map as_subject (reach db name)
