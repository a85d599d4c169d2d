-- What views show of a row.
use Rattle.std.specs.Prelude.{ℕ, ◌+◌, ◌==◌, sum_by, if◌then◌else◌}
use Rattle.own_base.specs.Row.{row_size}
use Rattle.own_base.specs.declared.row.TheConstants.{ROW_SIZE}
use Rattle.own_model.specs.declared.bound.Source1.{Source1}
use Rattle.own_model.specs.declared.bound.Source1.TheVariants.{Table, View, Pair}
use Rattle.own_model.specs.declared.schema.Schema.{Schema}
use Rattle.own_model.specs.declared.schema.ViewDef.{ViewDef}
use Rattle.own_model.specs.Db.{Row}
use Rattle.state_model.specs.Weight.{item_size}

-- the size of what a view shows of a row of the table of this number
abbrev pub shown_size : ℕ → Row → ViewDef → ℕ
shown_size number row view = by view.query.source
  where
    by : Source1 → ℕ
    by (Table table) = if table.0 == number then ROW_SIZE + sum_by (item_size row) view.query.items else 0
    by (Pair left right left_column right_column) = 0
    by (View of) = 0

-- and of what all views show of it
abbrev pub all_shown : Schema → ℕ → Row → ℕ
all_shown schema number row = sum_by (shown_size number row) schema.views

-- A row that no subject owns or reaches weighs its size, and that of what the views show of it.
abbrev pub lone_weight : Schema → ℕ → Row → ℕ
lone_weight schema number row = row_size row + all_shown schema number row
