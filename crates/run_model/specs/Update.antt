-- What an UPDATE and a DELETE do to the rows of a table.
use Rattle.std.specs.Prelude.{ℕ, List, [], ◌∷◌, ◌++◌, Bool, false, not, ◌&&◌, ◌==◌, Option, None, Some, filter, find, flat_map, is_none, map, slice_get, unwrap_or, if◌then◌else◌}
use Rattle.std.specs.List.{enumerate_from}
use Rattle.std.specs.Option.{option_map_or}
use Rattle.own_base.specs.declared.number.ColNo.{ColNo}
use Rattle.own_base.specs.declared.value.Value.{Value}
use Rattle.own_base.specs.declared.value.Value.TheVariants.{Null}
use Rattle.own_model.specs.declared.bound.BoundCond.{BoundCond}
use Rattle.own_model.specs.declared.bound.BoundExpr.{BoundExpr}
use Rattle.own_model.specs.declared.refusal.Refusal.{Refusal}
use Rattle.own_model.specs.declared.refusal.Refusal.TheVariants.{NullValue, Range}
use Rattle.own_model.specs.declared.schema.Column.{Column}
use Rattle.own_model.specs.declared.schema.TableDef.{TableDef}
use Rattle.own_model.specs.Db.{Row}
use Rattle.query_model.specs.Expression.{value_of}
use Rattle.query_model.specs.Truth.{is_null, keeps}

-- columns by number, and what each is set to
abbrev pub Sets : Type 0
Sets = List (ColNo × BoundExpr)

-- what stands in a column after an UPDATE: what it is set to over the row as it was, else what stood there
abbrev pub set_value : Sets → Row → ℕ × Value → Value
set_value sets row numbered = option_map_or (λ set. unwrap_or (value_of set.1 row) Null) (find (λ set. set.0.0 == numbered.0) sets) numbered.1

-- the row after an UPDATE of it
unfoldable pub updated : Sets → Row → Row
updated sets row = map (set_value sets row) (enumerate_from 0 row)

-- the rows of a table after an UPDATE: those that WHERE keeps are updated
unfoldable pub updated_rows : Sets → Option BoundCond → List Row → List Row
updated_rows sets cond rows = map (λ row. if keeps cond row then updated sets row else row) rows

-- the rows after a DELETE: those that WHERE doesn't keep
unfoldable pub rows_left : Option BoundCond → List Row → List Row
rows_left cond rows = filter (λ row. not (keeps cond row)) rows

-- a fault of one set, by its column
abbrev pub set_fault : TableDef → (Column → List Refusal) → ColNo × BoundExpr → List Refusal
set_fault table fault set = option_map_or fault (slice_get table.columns set.0.0) []

-- a value that is NULL, of a sum of NULL or of another column
abbrev pub is_null_value : Option Value → Bool
is_null_value None = false
is_null_value (Some value) = is_null value

-- a NOT NULL column that would become NULL
abbrev pub null_faults : TableDef → Sets → Row → List Refusal
null_faults table sets row =
    flat_map (λ set. set_fault table (λ column. if column.not_null && is_null_value (value_of set.1 row) then NullValue column.name ∷ [] else []) set) sets

-- a sum that leaves the range of INT
abbrev pub range_faults : TableDef → Sets → Row → List Refusal
range_faults table sets row = flat_map (λ set. set_fault table (λ column. if is_none (value_of set.1 row) then Range column.name ∷ [] else []) set) sets

-- What is wrong with an UPDATE as it runs: NULLs, then sums, each by row as the table stands, then by column in the text.
unfoldable pub update_faults : TableDef → Sets → List Row → List Refusal
update_faults table sets rows = flat_map (null_faults table sets) rows ++ flat_map (range_faults table sets) rows
