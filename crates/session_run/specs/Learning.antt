-- What a worker knows of the schema, and what it binds over that.
use Rattle.std.specs.Prelude.{◌≡◌, ◌⊎◌, ℕ, Option, Ok, IfSome, length}
use mathlib.Core.List.{IsPrefix}
use Rattle.own_model.specs.declared.request.Request.{Request}
use Rattle.own_model.specs.declared.request.Request.TheVariants.{Run}
use Rattle.own_model.specs.declared.statement.Statement.{Statement}
use Rattle.own_model.specs.Db.{Db}
use Rattle.schema_model.specs.WithinLimits.{IsWithinLimits}
use Rattle.query_model.specs.BoundStatement.{bound_statement}
use Rattle.query_model.specs.WithinLimits.{AreViewsWithin}
use Rattle.history_model.specs.History.{History, flat}
use Rattle.serve_model.specs.declared.ahead.Ahead.{Ahead}
use Rattle.serve_model.specs.declared.step.Step.{Step}
use Rattle.serve_model.specs.declared.step.Step.TheVariants.{Answered, Look, NoMemory}
use Rattle.session_run.specs.declared.learning.Learnt.{Learnt}

-- statements may be bound over it
pub record IsWithin (known : Learnt) : Type 0 where
  pub tables : IsWithinLimits known.schema
  pub views : AreViewsWithin known.schema

-- it is the schema of a database
pub record IsSchemaOf (db : Db) (known : Learnt) : Type 0 where
  pub schema_is : known.schema ≡ db.schema
  pub creates_are : known.creates ≡ length db.creates
  pub within : IsWithin known

-- it is the schema of the flat database behind some first entries of a history
pub record IsLearnt (base : Db) (history : History) (known : Learnt) : Type 0 where
  pub before : History
  pub begins : IsPrefix before history
  pub is_of : IsSchemaOf (flat base before) known

-- a request's statement is bound to this over it
pub record IsBoundOver (known : Learnt) (request : Request) (ahead : Ahead) : Type 0 where
  pub asked : Statement
  pub creates : ahead.creates ≡ known.creates
  pub asks : request ≡ Run asked
  pub means : bound_statement known.schema asked ≡ Ok ahead.bound

-- what is known stays, or is the schema of a database that was shown
abbrev pub Learns : Db → Option Learnt → Option Learnt → Type 0
Learns db old new = (new ≡ old) ⊎ IfSome new (IsSchemaOf db)

-- what a call came to is learnt of where it is a look
abbrev pub LearnsBy : {S : Type 0} → (S → Db) → Step S → Option Learnt → Option Learnt → Type 0
LearnsBy shows (Answered place reply) old new = new ≡ old
LearnsBy shows (Look place shown bound) old new = Learns (shows shown) old new
LearnsBy shows NoMemory old new = new ≡ old
