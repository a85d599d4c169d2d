-- What is wrong with a literal for a column that an UPDATE sets.
use Rattle.std.specs.Prelude.{List, [], ◌∷◌, ◌++◌, ◌&&◌, if◌then◌else◌}
use Rattle.own_base.specs.declared.value.Value.{Value}
use Rattle.own_model.specs.declared.refusal.Refusal.{Refusal}
use Rattle.own_model.specs.declared.refusal.Refusal.TheVariants.{NullValue, WrongKind}
use Rattle.own_model.specs.declared.schema.Column.{Column}
use Rattle.query_model.specs.Kinds.{goes_with}
use Rattle.query_model.specs.Scope.{NameBytes}
use Rattle.query_model.specs.Truth.{is_null}

-- another kind, and a NULL for a NOT NULL column; the column's name is told
abbrev pub unfit : NameBytes → Value → Column → List Refusal
unfit assigned value column = (if goes_with column.kind value then [] else WrongKind assigned ∷ [])
    ++ (if is_null value && column.not_null then NullValue assigned ∷ [] else [])
