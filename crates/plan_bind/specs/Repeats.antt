-- Columns that an UPDATE sets twice, by their numbers.
use Rattle.std.specs.Prelude.{List, [], ◌∷◌, ◌++◌, Bool, false, ◌||◌, ◌==◌}
use Rattle.std.specs.List.{list_any}
use Rattle.own_base.specs.declared.number.ColNo.{ColNo}
use Rattle.own_model.specs.declared.bound.BoundExpr.{BoundExpr}

-- whether one of these is the column of a number
abbrev pub is_set_in : List (ColNo × BoundExpr) → ColNo → Bool
is_set_in before column = list_any (λ set. set.0.0 == column.0) before

-- whether a column is one of those before it
abbrev pub is_repeated : List (ColNo × BoundExpr) → List (ColNo × BoundExpr) → Bool
is_repeated before [] = false
is_repeated before (set ∷ sets) = is_set_in before set.0 || is_repeated (before ++ set ∷ []) sets
