-- What an INSERT and an UPDATE mean.
use Rattle.std.specs.Prelude.{ℕ, List, Bool, false, ◌==◌, Option, find, map}
use Rattle.std.specs.List.{zip}
use Rattle.std.specs.Option.{option_map_or}
use Rattle.own_base.specs.declared.number.ColNo.{ColNo}
use Rattle.own_base.specs.declared.value.Value.{Value}
use Rattle.own_base.specs.declared.value.Value.TheVariants.{Null}
use Rattle.own_model.specs.declared.bound.BoundExpr.{BoundExpr}
use Rattle.own_model.specs.declared.bound.BoundExpr.TheVariants as bound
use Rattle.own_model.specs.declared.expression.Expr.{Expr}
use Rattle.own_model.specs.declared.expression.Expr.TheVariants.{Literal, Column, Plus, Minus}
use Rattle.own_model.specs.declared.schema.Column.{Column as Definition}
use Rattle.own_model.specs.declared.schema.TableDef.{TableDef}
use Rattle.own_model.specs.Db.{Row}
use Rattle.query_model.specs.Scope.{NameBytes}
use Rattle.query_model.specs.WriteFaults.{column_in, columns_for, numbered_columns}

-- whether a value of a tuple is for the column of this number
abbrev pub is_for : ℕ → Option (ℕ × Definition) × Value → Bool
is_for number pair = option_map_or (λ column. column.0 == number) pair.0 false

-- what a tuple gives a column: the value that is for it; NULL where none is
abbrev pub given : List (Option (ℕ × Definition) × Value) → ℕ × Definition → Value
given pairs column = option_map_or (λ pair. pair.1) (find (is_for column.0) pairs) Null

-- the row that a tuple puts
unfoldable pub put_row : TableDef → Option (List NameBytes) → List Value → Row
put_row table names tuple = map (given (zip (columns_for table names) tuple)) (numbered_columns table)

-- the number of the column of a name
abbrev pub column_number : TableDef → NameBytes → ColNo
column_number table name = record { 0 = option_map_or (λ found. found.0) (column_in table name) 0 }

abbrev pub bound_expression : TableDef → Expr → BoundExpr
bound_expression table (Literal value) = bound.Literal value
bound_expression table (Column name) = bound.Column (column_number table name)
bound_expression table (Plus name number) = bound.Plus (column_number table name) number
bound_expression table (Minus name number) = bound.Minus (column_number table name) number

-- the columns that an UPDATE sets, and to what
unfoldable pub bound_sets : TableDef → List (NameBytes × Expr) → List (ColNo × BoundExpr)
bound_sets table sets = map (λ set. (column_number table set.0, bound_expression table set.1)) sets
