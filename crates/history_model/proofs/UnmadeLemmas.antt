-- What memory may keep from being made of a session that stands so, it may keep from being made at all.
use Rattle.own_model.specs.declared.request.Request.{Request}
use Rattle.own_model.specs.declared.request.Request.TheVariants.{Run, Syntax, Limit, End}
use Rattle.own_model.specs.declared.schema.Schema.{Schema}
use Rattle.own_model.specs.declared.statement.Statement.{Statement}
use Rattle.own_model.specs.declared.statement.Statement.TheVariants as statement
use Rattle.history_model.specs.MayBeUnmade.{MayBeUnmade, MayBeUnmadeFrom, MayBeUnmadeInside}
use Rattle.history_model.specs.World.{Block, SessionStanding, Outside, Open, Doomed}

module _ (schema : Schema) where
  -- a statement in a transaction
  inside-unmade : (block : Block) (asked : Statement) → MayBeUnmadeInside schema block asked → MayBeUnmade (Run asked)
  inside-unmade block (statement.Select select) may = tt
  inside-unmade block (statement.Insert table columns rows) may = tt
  inside-unmade block (statement.Update table sets cond) may = tt
  inside-unmade block (statement.Delete table cond) may = tt
  inside-unmade block statement.Commit may = tt
  inside-unmade block _ may = absurd may

  -- and outside
  outside-unmade : (asked : Statement) → MayBeUnmadeFrom schema Outside (Run asked) → MayBeUnmade (Run asked)
  outside-unmade statement.Commit may = tt
  outside-unmade _ may = may

  -- any request
  pub from-unmade : (standing : SessionStanding) (request : Request) → MayBeUnmadeFrom schema standing request → MayBeUnmade request
  from-unmade (Doomed by) request may = absurd may
  from-unmade Outside (Run asked) may = outside-unmade asked may
  from-unmade (Open begun block) (Run asked) may = inside-unmade block asked may
  from-unmade Outside (Syntax byte) may = may
  from-unmade Outside (Limit passed) may = may
  from-unmade Outside End may = may
  from-unmade (Open begun block) (Syntax byte) may = may
  from-unmade (Open begun block) (Limit passed) may = may
  from-unmade (Open begun block) End may = may
