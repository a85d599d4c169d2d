-- Requests as the engine runs them.
use Rattle.std.specs.Prelude.{◌≡◌, Bool, true, false, Ok, IsTrue}
use Rattle.own_model.specs.declared.bound.Bound.{Bound}
use Rattle.own_model.specs.declared.bound.Bound.TheVariants as bound
use Rattle.own_model.specs.declared.request.Request.{Request}
use Rattle.own_model.specs.declared.request.Request.TheVariants.{Run}
use Rattle.own_model.specs.declared.schema.Schema.{Schema}
use Rattle.own_model.specs.declared.statement.Statement.{Statement}
use Rattle.own_model.specs.declared.statement.Statement.TheVariants.{Begin, Checkpoint, Commit, CreateTable, CreateView, Delete, Explain, GdprForget, GdprGet, Insert, Rollback, Select, Update}
use Rattle.schema_model.specs.Tables.{is_subject}
use Rattle.query_model.specs.BoundStatement.{bound_statement}
use Rattle.write_eval.specs.Write.{IsWrite}

-- whether a statement reads alone
abbrev pub reads_alone : Statement → Bool
reads_alone (Select select) = true
reads_alone (GdprGet table key) = true
reads_alone Explain = true
reads_alone _ = false

-- a statement that is bound before it changes rows
abbrev pub IsBound : Statement → Type 0
IsBound (Insert table columns rows) = Unit {0}
IsBound (Update table sets cond) = Unit {0}
IsBound (Delete table cond) = Unit {0}
IsBound (GdprForget table key) = Unit {0}
IsBound _ = ⊥

-- a statement that makes a table or a view
abbrev pub IsCreate : Statement → Type 0
IsCreate (CreateTable table) = Unit {0}
IsCreate (CreateView view) = Unit {0}
IsCreate _ = ⊥

-- a statement that runs by itself: none of those that begin or end a transaction, and no CHECKPOINT
abbrev pub RunsByItself : Statement → Type 0
RunsByItself Begin = ⊥
RunsByItself Commit = ⊥
RunsByItself Rollback = ⊥
RunsByItself Checkpoint = ⊥
RunsByItself _ = Unit {0}

-- whether a statement has a place in a transaction
abbrev pub has_place_inside : Statement → Bool
has_place_inside (Select select) = true
has_place_inside (Insert table columns rows) = true
has_place_inside (Update table sets cond) = true
has_place_inside (Delete table cond) = true
has_place_inside Commit = true
has_place_inside Rollback = true
has_place_inside _ = false

-- what a bound statement means that changes rows: a write, or a FORGET by a row of a table of data subjects
abbrev pub IsMeant : Schema → Bound → Type 0
IsMeant schema (bound.Insert table rows) = IsWrite schema (bound.Insert table rows)
IsMeant schema (bound.Update table sets cond) = IsWrite schema (bound.Update table sets cond)
IsMeant schema (bound.Delete table cond) = IsWrite schema (bound.Delete table cond)
IsMeant schema (bound.Forget subject) = IsTrue (is_subject schema subject.0.table.0)
IsMeant schema _ = ⊥

-- a request's statement is bound to this over a schema
pub record IsMeantBy (schema : Schema) (request : Request) (bound : Bound) : Type 0 where
  pub asked : Statement
  pub asks : request ≡ Run asked
  pub means : bound_statement schema asked ≡ Ok bound
