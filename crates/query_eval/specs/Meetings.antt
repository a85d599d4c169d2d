-- Which rows meet a value in a join.
use Rattle.std.specs.Prelude.{ℕ, List, Bool, filter}
use Rattle.own_base.specs.declared.value.Value.{Value}
use Rattle.own_model.specs.declared.condition.Cmp.TheVariants.{Eq}
use Rattle.own_model.specs.Db.{Row}
use Rattle.query_model.specs.Truth.{cell, compared, comparison, is_true}

-- whether two values meet: they are equal, and neither is NULL
abbrev pub meets : Value → Value → Bool
meets left right = is_true (comparison Eq (compared left right))

-- the rows that have a value in a column that meets one
abbrev pub meeting : Value → ℕ → List Row → List Row
meeting value column rows = filter (λ row. meets value (cell row column)) rows
