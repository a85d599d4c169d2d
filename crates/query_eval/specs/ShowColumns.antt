-- Whether the items of a select show a row as it is.
use Rattle.std.specs.Prelude.{ℕ, ◌+◌, List, [], ◌∷◌, Bool, true, false, ◌==◌, ◌&&◌}
use Rattle.own_model.specs.declared.bound.BoundItem.{BoundItem}
use Rattle.own_model.specs.declared.bound.BoundItem.TheVariants.{Column, Count, SumOf}

-- an item that is the column at a place
abbrev pub is_column : ℕ → BoundItem → Bool
is_column place (Column column) = column.0 == place
is_column place Count = false
is_column place (SumOf column) = false

-- items that are the columns from a place on, in their order
unfoldable pub show_columns : ℕ → List BoundItem → Bool
show_columns place [] = true
show_columns place (item ∷ items) = is_column place item && show_columns (place + 1) items
