-- Which calls are looks: statements that read alone, outside a transaction, and that nothing refuses before they run.
use Rattle.std.specs.Prelude.{◌≡◌, ℕ, Option, None, Some, Result, Ok, Err}
use Rattle.own_model.specs.declared.bound.Bound.{Bound}
use Rattle.own_model.specs.declared.bound.Bound.TheVariants.{Explain}
use Rattle.own_model.specs.declared.history.Entry.{Entry}
use Rattle.own_model.specs.declared.refusal.Refusal.{Refusal}
use Rattle.own_model.specs.declared.request.Request.{Request}
use Rattle.own_model.specs.declared.request.Request.TheVariants.{Run}
use Rattle.own_model.specs.declared.schema.Schema.{Schema}
use Rattle.own_model.specs.declared.statement.Statement.{Statement}
use Rattle.own_model.specs.declared.statement.Statement.TheVariants as statement
use Rattle.query_model.specs.BoundStatement.{bound_statement}
use Rattle.history_model.specs.World.{SessionStanding, Outside, World}

-- what a statement is bound to, where nothing is wrong with it
abbrev pub if_bound : Result Bound Refusal → Option Bound
if_bound (Ok bound) = Some bound
if_bound (Err why) = None

-- what a SELECT, a GDPR GET or an EXPLAIN reads; None of any other statement, and of one that binding refuses
abbrev pub read_of : Schema → Statement → Option Bound
read_of schema (statement.Select select) = if_bound (bound_statement schema (statement.Select select))
read_of schema (statement.GdprGet table key) = if_bound (bound_statement schema (statement.GdprGet table key))
read_of schema statement.Explain = Some Explain
read_of schema asked = None

-- what a request reads by itself, of a session that stands so
abbrev pub looked_at : Schema → SessionStanding → Request → Option Bound
looked_at schema Outside (Run asked) = read_of schema asked
looked_at schema standing request = None

-- and once the disk has failed, nothing
abbrev pub while_up : Option ℕ → Option Bound → Option Bound
while_up None bound = bound
while_up (Some failed) bound = None

-- What an entry reads in a world, where it is a look.
unfoldable pub look_of : World → Entry → Option Bound
look_of world entry = while_up world.down (looked_at world.flat.schema (world.standing entry.session.0) entry.request)

-- a bound statement that some look reads in a schema
pub record IsLook (schema : Schema) (bound : Bound) : Type 0 where
  pub asked : Statement
  pub reads : read_of schema asked ≡ Some bound
