-- Something kept for each value of a column.
use Rattle.std.specs.Prelude.{ℕ, List, map}
use Rattle.own_base.specs.declared.value.Value.{Value}
use Rattle.own_model.specs.Db.{Row}
use Rattle.query_model.specs.Query.{group_of, values_of}

-- the values of a column, rising, each with what is kept of the rows that have it
abbrev pub by_value : {X : Type 0} → (List Row → X) → ℕ → List Row → List (Value × X)
by_value keep column rows = map (λ value. (value, keep (group_of column rows value))) (values_of column rows)
