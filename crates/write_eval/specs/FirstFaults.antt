-- The faults that an UPDATE is refused by.
use Rattle.std.specs.Prelude.{List, [], ◌∷◌, ◌&&◌, Option, None, Some, is_none, if◌then◌else◌}
use Rattle.own_base.specs.declared.number.ColNo.{ColNo}
use Rattle.own_base.specs.declared.value.Value.{Value}
use Rattle.own_model.specs.declared.bound.BoundExpr.{BoundExpr}
use Rattle.own_model.specs.declared.refusal.Refusal.{Refusal}
use Rattle.own_model.specs.declared.refusal.Refusal.TheVariants.{NullValue, Range}
use Rattle.own_model.specs.declared.schema.Column.{Column}
use Rattle.own_model.specs.declared.schema.TableDef.{TableDef}
use Rattle.own_model.specs.Db.{Row}
use Rattle.query_model.specs.Expression.{value_of}
use Rattle.run_model.specs.Update.{is_null_value, set_fault}
use Rattle.state_model.specs.Fault.{first_of}

-- the first NULL and the first sum out of range
pub record Faults : Type 0 where
  pub null : Option Refusal
  pub range : Option Refusal

abbrev pub none_yet : Faults
none_yet = record { null = None; range = None }

-- one before, else the first of these
abbrev pub or_first : Option Refusal → List Refusal → Option Refusal
or_first (Some fault) more = Some fault
or_first None more = first_of more

-- more NULLs and more sums
abbrev pub with_faults : Faults → List Refusal → List Refusal → Faults
with_faults first nulls ranges = record { null = or_first first.null nulls; range = or_first first.range ranges }

-- what is wrong with a value for a column
abbrev pub null_fault : Option Value → Column → List Refusal
null_fault value column = if column.not_null && is_null_value value then NullValue column.name ∷ [] else []

abbrev pub range_fault : Option Value → Column → List Refusal
range_fault value column = if is_none value then Range column.name ∷ [] else []

-- what is wrong with a set over a row
abbrev pub set_nulls : TableDef → Row → ColNo × BoundExpr → List Refusal
set_nulls table row set = set_fault table (null_fault (value_of set.1 row)) set

abbrev pub set_ranges : TableDef → Row → ColNo × BoundExpr → List Refusal
set_ranges table row set = set_fault table (range_fault (value_of set.1 row)) set

-- NULLs are reported before sums
abbrev pub reported : Faults → Option Refusal
reported first = by first.null first.range
  where
    by : Option Refusal → Option Refusal → Option Refusal
    by (Some fault) range = Some fault
    by None range = range
