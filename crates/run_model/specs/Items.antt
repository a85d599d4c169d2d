-- The items of statements: which rows they may read or write.
use Rattle.std.specs.Prelude.{List, [], Result, Ok, Err, flat_map}
use Rattle.own_model.specs.declared.bound.Bound.{Bound}
use Rattle.own_model.specs.declared.footprint.FootItem.{FootItem}
use Rattle.own_model.specs.declared.refusal.Refusal.{Refusal}
use Rattle.own_model.specs.declared.schema.Schema.{Schema}
use Rattle.own_model.specs.declared.statement.Statement.{Statement}
use Rattle.own_model.specs.declared.statement.Statement.TheVariants.{Delete, Insert, Select, Update}
use Rattle.query_model.specs.BoundStatement.{bound_statement}
use Rattle.query_model.specs.Footprints.{footprint_of}

-- a statement that binding refuses names no rows
abbrev pub items_if : Schema → Result Bound Refusal → List FootItem
items_if schema (Ok bound) = footprint_of schema bound
items_if schema (Err why) = []

-- the footprint of a statement that is bound, over a schema
unfoldable pub items_of : Schema → Statement → List FootItem
items_of schema statement = items_if schema (bound_statement schema statement)

-- the footprints of several statements together
unfoldable pub items_of_all : Schema → List Statement → List FootItem
items_of_all schema statements = flat_map (items_of schema) statements

-- a SELECT, an INSERT, an UPDATE or a DELETE
abbrev pub TakesRows : Statement → Type 0
TakesRows (Select select) = Unit {0}
TakesRows (Insert table columns rows) = Unit {0}
TakesRows (Update table sets cond) = Unit {0}
TakesRows (Delete table cond) = Unit {0}
TakesRows _ = ⊥
