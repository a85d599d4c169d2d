-- The first thing that a rule finds in one row, in one table, and in all tables.
use Rattle.std.specs.Prelude.{ℕ, List, Option, flat_map}
use Rattle.own_model.specs.declared.refusal.Refusal.{Refusal}
use Rattle.own_model.specs.declared.schema.TableDef.{TableDef}
use Rattle.own_model.specs.Db.{Db, Row}
use Rattle.state_model.specs.Fault.{faults_by, first_of}

-- what a rule finds in the rows of a table: its number, its definition, all its rows, and one of them
abbrev pub Rule : Type 0
Rule = ℕ → TableDef → List Row → Row → List Refusal

-- the first in one table
abbrev pub first_in_table : Rule → ℕ → TableDef → List Row → Option Refusal
first_in_table rule number table rows = first_of (flat_map (rule number table rows) rows)

-- and in all
abbrev pub first_by : Rule → Db → Option Refusal
first_by rule db = first_of (faults_by rule db)
