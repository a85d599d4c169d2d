-- Which calls memory may keep from being made.
use Rattle.std.specs.Prelude.{◌≡◌, List, true}
use Rattle.std.specs.List.{AllByRecursion}
use Rattle.own_model.specs.declared.request.Request.{Request}
use Rattle.own_model.specs.declared.request.Request.TheVariants.{Run, Syntax, Limit, End}
use Rattle.own_model.specs.declared.schema.Schema.{Schema}
use Rattle.own_model.specs.declared.statement.Statement.{Statement}
use Rattle.own_model.specs.declared.statement.Statement.TheVariants.{Begin, Commit, Delete, Insert, Rollback, Select, Update}
use Rattle.history_model.specs.HasWritten.{has_written}
use Rattle.history_model.specs.Made.{Called, Unmade}
use Rattle.history_model.specs.World.{Block, SessionStanding, Outside, Open, Doomed}

-- Memory may keep this request from being made: a statement, which takes memory to be bound, to run or to show what it
-- reads. BEGIN and ROLLBACK take none; a text that is refused, and the end of a session, always leave their entry.
abbrev pub MayBeUnmade : Request → Type 0
MayBeUnmade (Run Begin) = ⊥
MayBeUnmade (Run Rollback) = ⊥
MayBeUnmade (Run statement) = Unit {0}
MayBeUnmade (Syntax byte) = ⊥
MayBeUnmade (Limit passed) = ⊥
MayBeUnmade End = ⊥

-- The same of a statement in a transaction with this block: one that takes rows may; so may a COMMIT, where the transaction
-- has run a write. A statement that has no place in a transaction is refused without taking memory.
abbrev pub MayBeUnmadeInside : Schema → Block → Statement → Type 0
MayBeUnmadeInside schema block (Select select) = Unit {0}
MayBeUnmadeInside schema block (Insert table columns rows) = Unit {0}
MayBeUnmadeInside schema block (Update table sets cond) = Unit {0}
MayBeUnmadeInside schema block (Delete table cond) = Unit {0}
MayBeUnmadeInside schema block Commit = has_written schema block ≡ true
MayBeUnmadeInside schema block statement = ⊥

-- And of a request of a session that stands so. A doom is told without taking memory.
abbrev pub MayBeUnmadeFrom : Schema → SessionStanding → Request → Type 0
MayBeUnmadeFrom schema (Doomed by) request = ⊥
MayBeUnmadeFrom schema Outside (Run Commit) = ⊥
MayBeUnmadeFrom schema (Open begun block) (Run statement) = MayBeUnmadeInside schema block statement
MayBeUnmadeFrom schema standing request = MayBeUnmade request

-- each of these calls that wasn't made is one that memory may keep from being made
abbrev pub AreUnmadeByMemory : List Called → Type 0
AreUnmadeByMemory calls = AllByRecursion (λ called. called.want ≡ Unmade → MayBeUnmade called.call.request) calls
