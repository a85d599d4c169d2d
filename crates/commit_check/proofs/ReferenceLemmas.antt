-- A row's references.
use Rattle.std.proofs.Common.{◌≡◌, ℕ, ◌<◌, Bool, false, true, length}
use Rattle.std.specs.Prelude.{None, Some, slice_get}
use Rattle.std.proofs.lemmas.Option.{slice_get_within}
use Rattle.own_base.specs.declared.number.TableNo.{TableNo}
use Rattle.own_model.specs.declared.refusal.Refusal.{Refusal}
use Rattle.own_model.specs.declared.schema.Column.{Column}
use Rattle.own_model.specs.declared.schema.RefKind.{RefKind}
use Rattle.own_model.specs.declared.schema.Schema.{Schema}
use Rattle.own_model.specs.declared.schema.TableDef.{TableDef}
use Rattle.schema_model.specs.OwnerSchema.{ColumnsRefer}
use Rattle.state_model.specs.Fault.{ColumnValue, first_of}
use Rattle.state_model.proofs.FaultLemmas.{refused}

-- the first that is refused of a value that a row holds
module _ (breaks : ColumnValue → Bool) (why : ColumnValue → Refusal) (held : ColumnValue) where
  pub refused-none : breaks held ≡ false → first_of (refused breaks why held) ≡ None
  refused-none is = rw is

  pub refused-some : breaks held ≡ true → first_of (refused breaks why held) ≡ Some (why held)
  refused-some is = rw is

-- the table that a column refers to is there
pub refers-within : (schema : Schema) (definition : TableDef) (number : ℕ) (column : Column) (link : RefKind × TableNo) → ColumnsRefer schema definition
    → slice_get definition.columns number ≡ Some column → column.refers ≡ Some link → link.1.0 < length schema.tables
refers-within schema definition number column link refer is refers =
    let to = (refer number column link is refers).1 in slice_get_within schema.tables link.1.0 to.table to.table_is
