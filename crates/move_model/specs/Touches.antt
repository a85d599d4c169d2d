-- The rows whose own edges a change may alter.
use Rattle.std.specs.Prelude.{◌≡◌, ◌≢◌, ◌⊎◌, ◌==◌, ℕ, Contains, Option, Some, IsFalse, IsTrue, is_some, slice_get}
use Rattle.std.specs.Option.{option_and_then}
use Rattle.own_base.specs.declared.change.Change.{Change}
use Rattle.own_base.specs.declared.row_name.RowName.{RowName}
use Rattle.own_base.specs.declared.value.Value.{Value}
use Rattle.own_model.specs.declared.schema.Edge.{Edge}
use Rattle.own_model.specs.Db.{Db, Row}
use Rattle.owner_model.specs.Joins.{value_at, value_of}

-- an edge of the schema leads up to the table of the change's row from that of another
pub record LeadsUp (db : Db) (change : Change) (edge : Edge) (name : RowName) : Type 0 where
  pub among : Contains db.schema.edges edge
  pub of_lower : name.table ≡ edge.lower
  pub of_upper : change.name.table ≡ edge.upper

-- Over an edge whose column the lower rows hold: the change's row comes or goes, and the other one names it.
pub record TouchesByLower (db : Db) (change : Change) (edge : Edge) (name : RowName) : Type 0 where
  pub leads : LeadsUp db change edge name
  pub held : IsTrue (edge.holder.0 == edge.lower.0)
  pub moves : is_some change.before ≢ is_some change.after
  pub names : value_at db name edge.column.0 ≡ Some (value_of change.name.key)

-- what stands in a column of a row, where there is one
abbrev pub cell_at : Option Row → ℕ → Option Value
cell_at row column = option_and_then (λ values. slice_get values column) row

-- Over one whose column the upper rows hold: the change's row names the other one, before or after.
pub record TouchesByUpper (db : Db) (change : Change) (edge : Edge) (name : RowName) : Type 0 where
  pub leads : LeadsUp db change edge name
  pub held : IsFalse (edge.holder.0 == edge.lower.0)
  pub names : (cell_at change.before edge.column.0 ≡ Some (value_of name.key)) ⊎ (cell_at change.after edge.column.0 ≡ Some (value_of name.key))

-- by an edge
abbrev pub TouchesBy : Db → Change → RowName → Edge → Type 0
TouchesBy db change name edge = TouchesByLower db change edge name ⊎ TouchesByUpper db change edge name

-- A change touches its own row, and rows by edges. The database is the one to which it leads.
abbrev pub Touches : Db → Change → RowName → Type 0
Touches db change name = (change.name ≡ name) ⊎ ((edge : Edge) × TouchesBy db change name edge)
