-- What is asked of a view whose rows are kept.
use Rattle.std.specs.Prelude.{◌≡◌, ◌<◌, List, Bool, false, None, length}
use Rattle.std.specs.List.{AllByRecursion}
use Rattle.own_model.specs.declared.bound.Source1.{Source1}
use Rattle.own_model.specs.declared.bound.Source1.TheVariants.{Pair, Table, View}
use Rattle.own_model.specs.declared.schema.Schema.{Schema}
use Rattle.own_model.specs.declared.schema.ViewDef.{ViewDef}
use Rattle.own_model.specs.Db.{Row}
use Rattle.query_model.specs.Stored.{IsStoredRow}

-- it reads a table that is there, or joins two that are, and then it isn't grouped
abbrev pub IsSourceOf : Schema → Bool → Source1 → Type 0
IsSourceOf schema grouped (Table table) = table.0 < length schema.tables
IsSourceOf schema grouped (View view) = ⊥
IsSourceOf schema grouped (Pair left right left_column right_column) = (left.0 < length schema.tables) × (right.0 < length schema.tables) × (grouped ≡ false)

-- and it has no ORDER BY, since CREATE VIEW has none
pub record IsViewOf (schema : Schema) (view : ViewDef) : Type 0 where
  pub source : IsSourceOf schema view.query.grouped view.query.source
  pub unordered : view.query.order ≡ None

abbrev pub AreViewsOf : Schema → Type 0
AreViewsOf schema = AllByRecursion (IsViewOf schema) schema.views

-- rows of tables hold no sums
abbrev pub HoldNoSums : List (List Row) → Type 0
HoldNoSums rows = AllByRecursion (AllByRecursion IsStoredRow) rows
