-- What the rows of names weigh.
use Rattle.std.specs.Prelude.{ℕ, ◌+◌, List, sum_by}
use Rattle.std.specs.Option.{option_map_or}
use Rattle.own_base.specs.declared.row_name.RowName.{RowName}
use Rattle.own_model.specs.Db.{Db}
use Rattle.owner_model.specs.Joins.{row_of}
use Rattle.subject_model.specs.Named.{NamedRow}
use Rattle.state_model.specs.Weight.{row_weight}
use Rattle.change_weight.specs.Shown.{all_shown}

-- a row with what the views show of it
abbrev pub whole_weight : Db → NamedRow → ℕ
whole_weight db named = row_weight db named + all_shown db.schema named.name.table.0 named.row

-- The row of a name weighs that where it is there, and nothing where it isn't.
unfoldable pub weight_at : Db → RowName → ℕ
weight_at db name = option_map_or (λ row. whole_weight db (record { name = name; row = row })) (row_of db name) 0

-- the rows of some names
abbrev pub names_weight : Db → List RowName → ℕ
names_weight db names = sum_by (weight_at db) names
