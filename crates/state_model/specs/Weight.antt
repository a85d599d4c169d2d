-- What a database weighs.
use Rattle.std.specs.Prelude.{ℕ, ◌+◌, ◌*◌, not, ◌&&◌, ◌==◌, filter, length, sum_by, if◌then◌else◌}
use Rattle.own_base.specs.Row.{row_size, value_size}
use Rattle.own_base.specs.declared.row.TheConstants.{ROW_SIZE}
use Rattle.own_base.specs.declared.row_name.RowName.{RowName}
use Rattle.own_base.specs.declared.value.TheConstants.{VALUE_SIZE}
use Rattle.own_model.specs.declared.bound.BoundItem.{BoundItem}
use Rattle.own_model.specs.declared.bound.BoundItem.TheVariants.{Column, Count, SumOf}
use Rattle.own_model.specs.declared.bound.Source1.{Source1}
use Rattle.own_model.specs.declared.bound.Source1.TheVariants.{Table, View, Pair}
use Rattle.own_model.specs.declared.schema.ViewDef.{ViewDef}
use Rattle.own_model.specs.Db.{Db, Row}
use Rattle.own_model.specs.Stored.{rows_at}
use Rattle.query_model.specs.Truth.{cell}
use Rattle.subject_model.specs.Named.{NamedRow, named_rows}
use Rattle.subject_model.specs.Owners.{owners, owns, reaches, subjects}

-- the subjects that reach a row and don't own it
abbrev pub seers : Db → RowName → ℕ
seers db name = length (filter (λ subject. reaches db subject name && not (owns db subject name)) (subjects db))

abbrev pub at_least_one : ℕ → ℕ
at_least_one count = if count == 0 then 1 else count

-- A row weighs its size for each of its owners, and at least once; each subject that reaches it and doesn't own it adds 64.
abbrev pub row_weight : Db → NamedRow → ℕ
row_weight db named = row_size named.row * at_least_one (length (owners db named.name)) + 64 * seers db named.name

-- the size of what an item shows of a row
abbrev pub item_size : Row → BoundItem → ℕ
item_size row (Column column) = value_size (cell row column.0)
item_size row Count = VALUE_SIZE
item_size row (SumOf column) = VALUE_SIZE

-- A view over one table weighs, for each row of the table, the size of a row of its items. A view over a join weighs nothing.
abbrev pub view_weight : Db → ViewDef → ℕ
view_weight db view = by view.query.source
  where
    by : Source1 → ℕ
    by (Table table) = sum_by (λ row. ROW_SIZE + sum_by (item_size row) view.query.items) (rows_at db.rows table.0)
    by (Pair left right left_column right_column) = 0
    by (View of) = 0

-- the weight of all rows and views
unfoldable pub weight : Db → ℕ
weight db = sum_by (row_weight db) (named_rows db) + sum_by (view_weight db) db.schema.views

-- how many rows all tables have together
abbrev pub row_count : Db → ℕ
row_count db = sum_by length db.rows
