-- Where a path ends, said of its rows at once.
use Rattle.std.specs.Prelude.{◌≡◌, [], ◌∷◌, ◌++◌, IsFalse, IsTrue}
use Rattle.std.specs.List.{AllByRecursion}
use Rattle.own_base.specs.declared.row_name.RowName.{RowName}
use Rattle.own_model.specs.Db.{Db}
use Rattle.owner_model.specs.Joins.{Joins}
use Rattle.subject_model.specs.Paths.{Path, Step, is_subject_row}

-- Each step's edge joins the row before it to the row that it enters.
abbrev pub AreJoined : Db → RowName → Path → Type 0
AreJoined db from [] = Unit {0}
AreJoined db from (step ∷ rest) = Joins db from step.edge step.upper × AreJoined db step.upper rest

-- Neighbours are joined, no row that is entered before the last is a subject row, and the last is the subject.
pub record EndsAtFirstSubject (db : Db) (from : RowName) (front : Path) (last : Step) (subject : RowName) : Type 0 where
  pub joined : AreJoined db from (front ++ last ∷ [])
  pub before : AllByRecursion (λ step. IsFalse (is_subject_row db step.upper)) front
  pub ends : IsTrue (is_subject_row db last.upper)
  pub is : last.upper ≡ subject
