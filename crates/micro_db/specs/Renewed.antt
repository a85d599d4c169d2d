-- What is made right of what is kept.
use Rattle.std.specs.Prelude.{◌≡◌, ◌⊎◌, List, Contains}
use Rattle.own_base.specs.declared.row_name.RowName.{RowName}
use Rattle.own_base.specs.declared.row_name.Subject.{Subject}
use Rattle.own_model.specs.Db.{Db}
use Rattle.link_model.specs.Whose.{reach_at}
use Rattle.shelf_model.specs.At.{copy_at, seen_at}
use Rattle.move_model.specs.declared.owner_move.OwnerMove.{OwnerMove}
use Rattle.micro_db.specs.declared.micro.MicroDb.{MicroDb}
use Rattle.micro_db.specs.Kept.{copy_kept, seen_kept}

-- What is kept of a row for a subject is what the database gives.
pub record IsRight (db : Db) (micro : MicroDb) (subject : Subject) (name : RowName) : Type 0 where
  pub copy : copy_kept micro subject name ≡ copy_at db subject.0 name
  pub sight : seen_kept micro subject name ≡ seen_at db subject.0 name

-- It is what it was.
pub record IsAsBefore (old new : MicroDb) (subject : Subject) (name : RowName) : Type 0 where
  pub copy : copy_kept new subject name ≡ copy_kept old subject name
  pub sight : seen_kept new subject name ≡ seen_kept old subject name

-- What is asked for is right, and of each other row and subject it is right or what it was.
pub record Renews (db : Db) (IsAsked : Subject → RowName → Type 0) (old new : MicroDb) : Type 0 where
  pub right : (subject : Subject) (name : RowName) → IsAsked subject name → IsRight db new subject name
  pub rest : (subject : Subject) (name : RowName) → IsRight db new subject name ⊎ IsAsBefore old new subject name

-- asked for one subject and one row
pub record IsOf (subject : Subject) (name : RowName) (other : Subject) (own : RowName) : Type 0 where
  pub same_subject : subject ≡ other
  pub same_name : name ≡ own

-- for the subject and the row of a move
abbrev pub IsMoveAt : OwnerMove → Subject → RowName → Type 0
IsMoveAt moved = IsOf moved.subject moved.name

-- for some of these
abbrev pub ForSomeOf : {X : Type 0} → (X → Subject → RowName → Type 0) → List X → Subject → RowName → Type 0
ForSomeOf {X} IsAsked xs subject name = (x : X) × (Contains xs x × IsAsked x subject name)

-- What is kept is right where subjects moved.
abbrev pub AreRight : Db → List OwnerMove → MicroDb → Type 0
AreRight db moves micro = (subject : Subject) (name : RowName) → ForSomeOf IsMoveAt moves subject name → IsRight db micro subject name

-- for one row and each subject that reaches it
pub record IsReachedAt (db : Db) (name : RowName) (subject : Subject) (own : RowName) : Type 0 where
  pub reached : Contains (reach_at db name) subject
  pub same_name : name ≡ own
