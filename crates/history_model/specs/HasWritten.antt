-- Whether a transaction has run a write.
use Rattle.std.specs.Prelude.{Bool, true, false, Result, Ok, Err}
use Rattle.std.specs.List.{list_any}
use Rattle.own_model.specs.declared.bound.Bound.{Bound}
use Rattle.own_model.specs.declared.bound.Bound.TheVariants.{Delete, Insert, Update}
use Rattle.own_model.specs.declared.refusal.Refusal.{Refusal}
use Rattle.own_model.specs.declared.schema.Schema.{Schema}
use Rattle.query_model.specs.BoundStatement.{bound_statement}
use Rattle.history_model.specs.World.{Block}

-- an INSERT, an UPDATE or a DELETE
abbrev pub is_write : Bound → Bool
is_write (Insert table rows) = true
is_write (Update table sets cond) = true
is_write (Delete table cond) = true
is_write bound = false

-- one that binding lets through
abbrev pub is_bound_write : Result Bound Refusal → Bool
is_bound_write (Ok bound) = is_write bound
is_bound_write (Err why) = false

-- whether one of a transaction's statements is such a write
unfoldable pub has_written : Schema → Block → Bool
has_written schema block = list_any (λ stated. is_bound_write (bound_statement schema stated.statement)) block
