-- The tables that references name.
use Rattle.std.proofs.Common.{◌≡◌, [], false, refl}
use Rattle.std.specs.Prelude.{Option, Some, None, slice_get, filter, is_none, bytes_eq}
use Rattle.own_model.specs.declared.create.CreateTable.{CreateTable}
use Rattle.own_model.specs.declared.create.RefDef.{RefDef}
use Rattle.own_model.specs.declared.schema.Schema.{Schema}
use Rattle.own_model.specs.declared.schema.TableDef.{TableDef}
use Rattle.schema_model.specs.NewTable.{new_table, tables_with, target_of}
use Rattle.schema_model.specs.References.{Reference, references_of}
use Rattle.schema_model.specs.Tables.{number_of}
use Rattle.schema_model.specs.rules.MissingTables.{missing_tables}
use Rattle.schema_model.proofs.Found.{find-with_last}
use Rattle.schema_model.proofs.Places.{IsIn, all-at, filter-none, map-none}

-- the table that a reference names has the number that the reference's edge has for it
pub target-at : (schema : Schema) (create : CreateTable) (refers : RefDef) (table : TableDef) → target_of schema create refers ≡ Some table
    → slice_get (tables_with schema create) (number_of schema refers.table) ≡ Some table
target-at schema create refers table is = find-with_last (λ table. bytes_eq table.name refers.table) schema.tables (new_table schema create) table is

some_step : (o : Option TableDef) → is_none o ≡ false → (table : TableDef) × (o ≡ Some table)
some_step None some = let never : ⊥ = cc in absurd never
some_step (Some table) some = (table, refl)

-- each reference names a table that is there
pub target-there : (schema : Schema) (create : CreateTable) (reference : Reference) → missing_tables schema create ≡ [] → IsIn (references_of create) reference
    → (table : TableDef) × (target_of schema create reference.refers ≡ Some table)
unfolding missing_tables
target-there schema create reference none among =
    let kept = map-none (λ reference. reference.refers.table) (filter (λ reference. is_none (target_of schema create reference.refers)) (references_of create)) none in
    let each = filter-none (λ reference. is_none (target_of schema create reference.refers)) (references_of create) kept in
    some_step _ (all-at (λ reference. is_none (target_of schema create reference.refers) ≡ false) (references_of create) each among.0 reference among.1)
