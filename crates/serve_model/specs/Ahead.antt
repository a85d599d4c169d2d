-- What a statement was bound to ahead of its call, over a database that came earlier in the same history.
use Rattle.std.specs.Prelude.{◌≡◌, Ok, length}
use mathlib.Core.List.{IsPrefix}
use Rattle.own_model.specs.declared.request.Request.{Request}
use Rattle.own_model.specs.declared.request.Request.TheVariants.{Run}
use Rattle.own_model.specs.declared.statement.Statement.{Statement}
use Rattle.own_model.specs.Db.{Db}
use Rattle.query_model.specs.BoundStatement.{bound_statement}
use Rattle.history_model.specs.History.{History, flat}
use Rattle.serve_model.specs.declared.ahead.Ahead.{Ahead}

-- Behind some first entries of the history the flat database had so many creates, and over its schema the request's statement is
-- bound to this.
pub record IsBoundAhead (base : Db) (history : History) (request : Request) (ahead : Ahead) : Type 0 where
  pub before : History
  pub asked : Statement
  pub begins : IsPrefix before history
  pub creates : ahead.creates ≡ length (flat base before).creates
  pub asks : request ≡ Run asked
  pub means : bound_statement (flat base before).schema asked ≡ Ok ahead.bound
