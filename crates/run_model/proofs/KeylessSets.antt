-- An UPDATE that binding lets through sets no primary key.
use Rattle.std.proofs.Common.{◌≡◌, ℕ, List, [], ◌∷◌, ◌++◌, map, false, ◌==◌, refl}
use Rattle.std.specs.Prelude.{Option, Some, None, slice_get, flat_map, if◌then◌else◌}
use Rattle.std.specs.List.{AllByRecursion}
use Rattle.std.specs.Option.{option_map_or}
use Rattle.own_model.specs.declared.condition.Cond.{Cond}
use Rattle.own_model.specs.declared.expression.Expr.{Expr}
use Rattle.own_model.specs.declared.refusal.Refusal.{Refusal}
use Rattle.own_model.specs.declared.refusal.Refusal.TheVariants.{KeyWrite, NoColumn}
use Rattle.own_model.specs.declared.schema.Column.{Column}
use Rattle.own_model.specs.declared.schema.Schema.{Schema}
use Rattle.own_model.specs.declared.schema.TableDef.{TableDef}
use Rattle.query_model.specs.ConditionFaults.{where_faults}
use Rattle.query_model.specs.Refused.{lowest}
use Rattle.query_model.specs.Scope.{NameBytes, table_named, table_scope}
use Rattle.query_model.specs.SelectFaults.{no_table}
use Rattle.query_model.specs.SelectMeaning.{table_number}
use Rattle.query_model.specs.WriteFaults.{column_in, expression_faults, set_faults, twice, update_faults}
use Rattle.query_model.specs.WriteMeaning.{bound_sets, column_number}
use Rattle.schema_model.proofs.Places.{append-none, flat_map-none}
use Rattle.query_model.proofs.NoFaults.{none-first, none-if, none-lowest}
use Rattle.run_model.proofs.Numbered.{named-at}
use Rattle.run_model.proofs.RisingKeys.{AreKeyless}

-- sets of an UPDATE as it is written
abbrev pub Written : Type 0
Written = List (NameBytes × Expr)

-- each has no fault over a table
abbrev pub AreFaultless : TableDef → Written → Type 0
AreFaultless table sets = AllByRecursion (λ set. set_faults table set ≡ []) sets

-- by what is found of the table's name
over_step : (sets : Written) (table : TableDef) (found : Option (ℕ × TableDef)) (number : ℕ) → found ≡ Some (number, table)
    → option_map_or (λ found. flat_map (set_faults found.1) sets ++ twice [] (map (λ set. set.0) sets)) found [] ≡ []
    → flat_map (set_faults table) sets ++ twice [] (map (λ set. set.0) sets) ≡ []
over_step sets table found number is none = rw is at none

-- The sets of an UPDATE without faults have none over its table, and are bound over it.
pub record AreSetsOver (schema : Schema) (name : NameBytes) (sets : Written) (table : TableDef) : Type 0 where
  pub none : AreFaultless table sets
  pub bound : option_map_or (λ found. bound_sets found.1 sets) (table_named schema name) [] ≡ bound_sets table sets

pub sets_over : (schema : Schema) (name : NameBytes) (sets : Written) (cond : Option Cond) (table : TableDef) → lowest (update_faults schema name sets cond) ≡ None
    → slice_get schema.tables (table_number schema name).0 ≡ Some table → AreSetsOver schema name sets table
unfolding update_faults
sets_over schema name sets cond table told at =
    let parts = append-none _ (where_faults (table_scope schema name) cond) (none-lowest _ told) in
    let two = append-none (no_table schema name) _ parts.0 in
    let named = named-at schema name table two.0 at in
    let own = over_step sets table (table_named schema name) _ named two.1 in
    record {
      none = flat_map-none (set_faults table) sets (append-none (flat_map (set_faults table) sets) _ own).0;
      bound = rw named refl;
    }

-- The column that a set without faults is of: it is there, and isn't the primary key.
pub record IsColumnSet (table : TableDef) (name : NameBytes) (number : ℕ) (column : Column) : Type 0 where
  pub found : column_in table name ≡ Some (number, column)
  pub keyless : (number == table.key.0) ≡ false

-- by what is found of the column's name
column_step : (table : TableDef) (name : NameBytes) (rest : List Refusal) (found : Option (ℕ × Column)) → column_in table name ≡ found
    → (option_map_or (λ found. []) found (NoColumn name ∷ []) ++ (if option_map_or (λ found. found.0 == table.key.0) found false then KeyWrite name ∷ [] else [])) ++ rest ≡ []
    → (number : ℕ) × (column : Column) × IsColumnSet table name number column
column_step table name rest None is none = absurd (cc)
column_step table name rest (Some found) is none =
    let key = none-if (found.0 == table.key.0) (KeyWrite name) (none-first _ rest none) in
    (found.0, found.1, record { found = is; keyless = key })

pub column_set : (table : TableDef) (set : NameBytes × Expr) → set_faults table set ≡ []
    → (number : ℕ) × (column : Column) × IsColumnSet table set.0 number column
column_set table set none = column_step table set.0 (expression_faults table set.0 (column_in table set.0) set.1) _ refl none

keyless_step : (table : TableDef) (name : NameBytes) (number : ℕ) (column : Column) → IsColumnSet table name number column
    → ((column_number table name).0 == table.key.0) ≡ false
keyless_step table name number column is = rw is.found is.keyless

-- sets without faults are of no primary key
pub keyless-bound_sets : (table : TableDef) (sets : Written) → AreFaultless table sets → AreKeyless table (bound_sets table sets)
unfolding bound_sets
keyless-bound_sets table [] none = tt
keyless-bound_sets table (set ∷ sets) none =
    let column = column_set table set none.0 in
    (keyless_step table set.0 column.0 column.1 column.2, keyless-bound_sets table sets none.1)
