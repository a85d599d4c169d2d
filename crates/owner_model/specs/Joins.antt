-- Which rows an edge joins.
use Rattle.std.specs.Prelude.{◌≡◌, ℕ, Option, Some, Contains, IsSome, slice_get, ◌==◌, if◌then◌else◌}
use Rattle.std.specs.Option.{option_and_then}
use Rattle.own_base.specs.declared.row_name.RowName.{RowName}
use Rattle.own_base.specs.declared.value.Key.{Key}
use Rattle.own_base.specs.declared.value.Key.TheVariants as key
use Rattle.own_base.specs.declared.value.Value.{Value}
use Rattle.own_base.specs.declared.value.Value.TheVariants.{Int, Text}
use Rattle.own_model.specs.declared.schema.Edge.{Edge}
use Rattle.own_model.specs.Db.{Db, Row}
use Rattle.own_model.specs.Stored.{row_named}

-- the row of this name in a database
abbrev pub row_of : Db → RowName → Option Row
row_of db name = row_named db.schema db.rows name

-- what stands in a column of the row of this name
abbrev pub value_at : Db → RowName → ℕ → Option Value
value_at db name column = option_and_then (λ row. slice_get row column) (row_of db name)

-- a key as a value of a row
abbrev pub value_of : Key → Value
value_of (key.Int number) = Int number
value_of (key.Text bytes) = Text bytes

-- the row that has the edge's column, of the two that it joins
abbrev pub holder_of : Edge → RowName → RowName → RowName
holder_of edge lower upper = if edge.holder.0 == edge.lower.0 then lower else upper

-- and the other, which it names
abbrev pub other_of : Edge → RowName → RowName → RowName
other_of edge lower upper = if edge.holder.0 == edge.lower.0 then upper else lower

-- An edge of the schema joins a row of its lower table to a row of its upper table: both are there, and the holder's column
-- has the other row's key.
pub record Joins (db : Db) (lower : RowName) (edge : Edge) (upper : RowName) : Type 0 where
  pub among : Contains db.schema.edges edge
  pub of_lower : lower.table ≡ edge.lower
  pub of_upper : upper.table ≡ edge.upper
  pub lower_there : IsSome (row_of db lower)
  pub upper_there : IsSome (row_of db upper)
  pub names : value_at db (holder_of edge lower upper) edge.column.0 ≡ Some (value_of (other_of edge lower upper).key)
