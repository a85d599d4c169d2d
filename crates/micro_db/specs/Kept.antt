-- What is kept for all data subjects.
use Rattle.std.specs.Prelude.{◌≡◌, Option}
use Rattle.own_base.specs.declared.row_name.RowName.{RowName}
use Rattle.own_base.specs.declared.row_name.Subject.{Subject}
use Rattle.own_model.specs.Db.{Db}
use Rattle.shelf_model.specs.declared.shelved.Shelved.{Shelved}
use Rattle.shelf_model.specs.At.{copy_at, seen_at}
use Rattle.micro_db.specs.declared.micro.MicroDb.{MicroDb}
use Rattle.micro_db.specs.Filed.{filed_at}

-- the name of the row of a copy, and of what is a name
abbrev pub name_of_copy : Shelved → RowName
name_of_copy copy = copy.name

abbrev pub itself : RowName → RowName
itself name = name

-- the copy of a row that is kept for a subject
abbrev pub copy_kept : MicroDb → Subject → RowName → Option Shelved
copy_kept micro subject name = filed_at name_of_copy micro.shelves subject name

-- and the name of a row that is kept as one that it sees
abbrev pub seen_kept : MicroDb → Subject → RowName → Option RowName
seen_kept micro subject name = filed_at itself micro.seen subject name

-- For each row and each subject they are what the database gives.
pub record StandsFor (db : Db) (micro : MicroDb) : Type 0 where
  pub copies : (subject : Subject) (name : RowName) → copy_kept micro subject name ≡ copy_at db subject.0 name
  pub sights : (subject : Subject) (name : RowName) → seen_kept micro subject name ≡ seen_at db subject.0 name
