-- Each table that creates give has its primary key among its columns.
use Rattle.std.proofs.Common.{◌≡◌, [], ◌∷◌}
use Rattle.std.specs.Prelude.{Some, slice_get}
use Rattle.std.specs.List.{AllByRecursion}
use Rattle.own_model.specs.declared.create.CreateTable.{CreateTable}
use Rattle.own_model.specs.declared.schema.Column.{Column}
use Rattle.own_model.specs.declared.schema.Schema.{Schema}
use Rattle.own_model.specs.declared.schema.TableDef.{TableDef}
use Rattle.own_model.specs.Db.{Db}
use Rattle.schema_model.specs.Columns.{columns_of}
use Rattle.schema_model.specs.NewTable.{new_column, new_table}
use Rattle.schema_model.specs.WithTable.{with_table}
use Rattle.schema_model.proofs.Admitted.{admitted}
use Rattle.schema_model.proofs.KeyLemmas.{key-at}
use Rattle.schema_model.proofs.Places.{all-append, slice_get-in_map}
use Rattle.state_model.specs.Create.{with_view}
use Rattle.state_model.specs.Created.{Create, IsAdmitted, IsCreated, IsReadableCreate, OfTable, OfView, with_create, without_rows}
use Rattle.state_model.proofs.CreatedLemmas.{kept-created}

-- the primary key is a column of the table
pub record HasKey (table : TableDef) : Type 0 where
  pub column : Column
  pub column_is : slice_get table.columns table.key.0 ≡ Some column

key-new_table : (schema : Schema) (create : CreateTable) → IsAdmitted schema (OfTable create) → HasKey (new_table schema create)
unfolding new_table
key-new_table schema create is =
    let key = key-at schema create (admitted schema without_rows create is) in
    record { column = new_column schema create key.0; column_is = slice_get-in_map (new_column schema create) (columns_of create) (new_table schema create).key.0 key.0 key.1 }

key-kept : (schema : Schema) (create : Create) → AllByRecursion HasKey schema.tables → IsReadableCreate create → IsAdmitted schema create → AllByRecursion HasKey (with_create schema create).tables
unfolding with_table with_view
key-kept schema (OfTable create) have readable is = all-append HasKey schema.tables (new_table schema create ∷ []) have (key-new_table schema create is, tt)
key-kept schema (OfView view) have readable is = have

pub keyed-created : (db : Db) → IsCreated db → AllByRecursion HasKey db.schema.tables
keyed-created = kept-created (λ schema. AllByRecursion HasKey schema.tables) key-kept tt
