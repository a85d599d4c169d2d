-- The sources of a select.
use Rattle.std.specs.Prelude.{◌<◌, length}
use Rattle.own_model.specs.declared.bound.Source1.{Source1}
use Rattle.own_model.specs.declared.bound.Source1.TheVariants.{Pair, Table, View}
use Rattle.own_model.specs.declared.schema.Schema.{Schema}

-- a table that is there
abbrev pub IsTableOf : Schema → Source1 → Type 0
IsTableOf schema (Table table) = table.0 < length schema.tables
IsTableOf schema (View view) = ⊥
IsTableOf schema (Pair left right left_column right_column) = ⊥

-- two tables that are there
abbrev pub IsPairOf : Schema → Source1 → Type 0
IsPairOf schema (Table table) = ⊥
IsPairOf schema (View view) = ⊥
IsPairOf schema (Pair left right left_column right_column) = (left.0 < length schema.tables) × (right.0 < length schema.tables)

-- a table that is there, or two
abbrev pub IsBaseOf : Schema → Source1 → Type 0
IsBaseOf schema (Table table) = table.0 < length schema.tables
IsBaseOf schema (View view) = ⊥
IsBaseOf schema (Pair left right left_column right_column) = (left.0 < length schema.tables) × (right.0 < length schema.tables)
