-- A CREATE TABLE that is admitted leaves the schema within the limits.
use Rattle.std.proofs.Common.{◌≡◌, ℕ, [], ◌∷◌, length, Bool, arith}
use Rattle.std.specs.Prelude.{None}
use Rattle.std.proofs.lemmas.List.{length-append, length-map}
use Rattle.own_model.specs.declared.create.CreateTable.{CreateTable}
use Rattle.own_model.specs.declared.schema.Schema.{Schema}
use Rattle.schema_model.specs.Columns.{columns_of}
use Rattle.schema_model.specs.NewTable.{new_column, new_table}
use Rattle.schema_model.specs.Refusal.{refusal_of}
use Rattle.schema_model.specs.WithTable.{with_table}
use Rattle.schema_model.specs.WithinLimits.{IsTableWithin, IsWithinLimits}
use Rattle.schema_model.proofs.Admitted.{IsAdmitted, admitted}
use Rattle.schema_model.proofs.KeyLemmas.{key-at}
use Rattle.schema_model.proofs.Places.{all-append, place-lt}

-- the new table has as many columns as the CREATE
length-columns : (schema : Schema) (create : CreateTable) → length (new_table schema create).columns ≡ length (columns_of create)
unfolding new_table
length-columns schema create = length-map (columns_of create) (new_column schema create)

-- it is within its limits
table_within : (schema : Schema) (create : CreateTable) → IsAdmitted schema create → IsTableWithin (new_table schema create)
table_within schema create admitted =
    let key = key-at schema create admitted in
    let below = place-lt (columns_of create) (new_table schema create).key.0 key.0 key.1 in
    record {
      columns = omega (arith, length-columns schema create, admitted.few_columns);
      key = omega (arith, length-columns schema create, below);
    }

-- and so is the schema with it
within_limits : (schema : Schema) (create : CreateTable) → IsWithinLimits schema → IsAdmitted schema create → IsWithinLimits (with_table schema create)
unfolding with_table
within_limits schema create within admitted = record {
  tables = omega (arith, length-append schema.tables (new_table schema create ∷ []), admitted.few_tables);
  each = all-append IsTableWithin schema.tables (new_table schema create ∷ []) within.each (table_within schema create admitted, tt);
}

-- where the CREATE isn't refused
pub within_limits-with_table : (schema : Schema) (holds_rows : ℕ → Bool) (create : CreateTable) → IsWithinLimits schema → refusal_of schema holds_rows create ≡ None → IsWithinLimits (with_table schema create)
within_limits-with_table schema holds_rows create within none = within_limits schema create within (admitted schema holds_rows create none)

-- the empty schema is within them
pub within_limits-empty : IsWithinLimits (record { tables = []; views = []; edges = [] })
within_limits-empty = record { tables = omega arith; each = tt }
