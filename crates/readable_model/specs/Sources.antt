-- Sources of selects that are there.
use Rattle.std.specs.Prelude.{◌≡◌, ◌<◌, Bool, false, length}
use Rattle.own_model.specs.declared.bound.BoundSelect.{BoundSelect}
use Rattle.own_model.specs.declared.bound.Source1.{Source1}
use Rattle.own_model.specs.declared.bound.Source1.TheVariants.{Pair, Table, View}
use Rattle.own_model.specs.declared.schema.Schema.{Schema}

-- a source that is there, for a select that is grouped or not: a table, or two, or a view, which no grouped select reads
abbrev pub IsSourceThere : Schema → Bool → Source1 → Type 0
IsSourceThere schema grouped (Table table) = table.0 < length schema.tables
IsSourceThere schema grouped (Pair left right left_column right_column) = (left.0 < length schema.tables) × (right.0 < length schema.tables)
IsSourceThere schema grouped (View view) = (view.0 < length schema.views) × (grouped ≡ false)

-- a select whose source is there
abbrev pub IsThere : Schema → BoundSelect → Type 0
IsThere schema query = IsSourceThere schema query.grouped query.source
