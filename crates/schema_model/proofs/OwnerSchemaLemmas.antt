-- A CREATE TABLE that isn't refused leaves an owner schema.
use Rattle.std.proofs.Common.{◌≡◌, ℕ, [], Bool, refl}
use Rattle.std.specs.Prelude.{Option, None, Some}
use Rattle.own_model.specs.declared.create.CreateTable.{CreateTable}
use Rattle.own_model.specs.declared.schema.Edge.{Edge}
use Rattle.own_model.specs.declared.schema.Schema.{Schema}
use Rattle.own_model.specs.declared.schema.TableDef.{TableDef}
use Rattle.owner_model.specs.Leads.{leads}
use Rattle.schema_model.specs.OwnerSchema.{IsOwnerSchema}
use Rattle.schema_model.specs.Refusal.{refusal_of}
use Rattle.schema_model.specs.WithTable.{with_table}
use Rattle.schema_model.proofs.Admitted.{IsAdmitted, admitted}
use Rattle.schema_model.proofs.EdgeOrder.{each-with_table, rise-with_table}
use Rattle.schema_model.proofs.OwnerEdges.{acyclic-with_table, edges-with_table}
use Rattle.schema_model.proofs.OwnerRules.{rules-with_table}
use Rattle.schema_model.proofs.OwnerSubjects.{subjects-with_table}
use Rattle.schema_model.proofs.OwnerTables.{columns-with_table, names-with_table, numbered-with_table}

-- an admitted CREATE leaves one
owner_schema : (schema : Schema) (create : CreateTable) → IsOwnerSchema schema → IsAdmitted schema create → IsOwnerSchema (with_table schema create)
unfolding with_table
owner_schema schema create owner admitted = record {
  numbered = numbered-with_table schema create owner;
  names = names-with_table schema create owner admitted;
  columns = columns-with_table schema create owner admitted;
  edges = edges-with_table schema create owner admitted;
  each = each-with_table schema create owner;
  rise = rise-with_table schema create owner;
  rules = rules-with_table schema create owner admitted;
  acyclic = acyclic-with_table schema create owner admitted;
  subjects = subjects-with_table schema create owner admitted;
}

-- so does one that isn't refused
pub owner_schema-with_table : (schema : Schema) (holds_rows : ℕ → Bool) (create : CreateTable) → IsOwnerSchema schema → refusal_of schema holds_rows create ≡ None
    → IsOwnerSchema (with_table schema create)
owner_schema-with_table schema holds_rows create owner none = owner_schema schema create owner (admitted schema holds_rows create none)

-- the empty schema is one
pub owner_schema-empty : IsOwnerSchema (record { tables = []; views = []; edges = [] })
unfolding leads
owner_schema-empty = record {
  numbered = refl;
  names = tt;
  columns = tt;
  edges = tt;
  each = λ number place table column link is at refers gives. let never : ◌≡◌ {A = Option TableDef} None (Some table) = is in cc;
  rise = λ place behind edge other before is there. let never : ◌≡◌ {A = Option Edge} None (Some edge) = is in cc;
  rules = tt;
  acyclic = λ table. refl;
  subjects = λ table subject. refl;
}
