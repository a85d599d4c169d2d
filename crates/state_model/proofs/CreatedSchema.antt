-- What the schema has that creates give.
use Rattle.std.proofs.Common.{◌≡◌, refl}
use Rattle.std.specs.Prelude.{None, Ok}
use Rattle.own_model.specs.declared.create.CreateView.{CreateView}
use Rattle.own_model.specs.declared.schema.Column.{Column}
use Rattle.own_model.specs.declared.schema.Edge.{Edge}
use Rattle.own_model.specs.declared.schema.RefKind.{RefKind}
use Rattle.own_model.specs.declared.schema.Schema.{Schema}
use Rattle.own_model.specs.declared.schema.TableDef.{TableDef}
use Rattle.own_base.specs.declared.number.TableNo.{TableNo}
use Rattle.own_model.specs.Db.{Db}
use Rattle.schema_model.specs.OwnerSchema.{ColumnsRefer, IsOwnerEdge, IsOwnerSchema, RefersToKey, RulesWell}
use Rattle.schema_model.specs.WithinLimits.{IsWithinLimits}
use Rattle.schema_model.proofs.LimitLemmas.{within_limits-empty, within_limits-with_table}
use Rattle.schema_model.proofs.OwnerSchemaLemmas.{owner_schema-empty, owner_schema-with_table}
use Rattle.schema_model.proofs.Places.{all-weaker}
use Rattle.query_model.specs.BoundView.{bound_view, new_view, view_faults}
use Rattle.query_model.specs.Refused.{lowest}
use Rattle.query_model.specs.WithinLimits.{AreViewsWithin}
use Rattle.query_model.proofs.ViewLimits.{views_within-empty, views_within-with_table, views_within-with_view}
use Rattle.readable_model.proofs.Within.{written_view_within}
use Rattle.state_model.specs.Create.{with_view}
use Rattle.state_model.specs.Created.{Create, IsAdmitted, IsCreated, IsReadableCreate, OfTable, OfView, with_create, without_rows}
use Rattle.state_model.proofs.CreatedLemmas.{kept-created}
use Rattle.state_model.proofs.PlainKinds.{ArePlainTables, plain-with_table}

-- a view changes no table and no edge
refers-with_view : (schema : Schema) (view : CreateView) (column : Column) (link : RefKind × TableNo) → RefersToKey schema column link
    → RefersToKey (with_view schema view) column link
unfolding with_view
refers-with_view schema view column link refers =
    record { table = refers.table; table_is = refers.table_is; key = refers.key; key_is = refers.key_is; kind = refers.kind }

columns-with_view : (schema : Schema) (view : CreateView) (table : TableDef) → ColumnsRefer schema table → ColumnsRefer (with_view schema view) table
columns-with_view schema view table refer number column link is refers =
    let own = refer number column link is refers in (own.0, refers-with_view schema view column link own.1)

edge-with_view : (schema : Schema) (view : CreateView) (edge : Edge) → IsOwnerEdge schema edge → IsOwnerEdge (with_view schema view) edge
unfolding with_view
edge-with_view schema view edge is = record {
  differ = is.differ;
  held = is.held;
  holder = is.holder;
  holder_is = is.holder_is;
  column = is.column;
  column_is = is.column_is;
  kind = is.kind;
  refers = is.refers;
  edges = is.edges;
  side = is.side;
  owner = is.owner;
}

rules-with_view : (schema : Schema) (view : CreateView) (edge : Edge) → RulesWell schema edge → RulesWell (with_view schema view) edge
unfolding with_view
rules-with_view schema view edge well = record { no_key = well.no_key; own_alone = well.own_alone }

-- its edges stay an ownership graph
pub owner_schema-with_view : (schema : Schema) (view : CreateView) → IsOwnerSchema schema → IsOwnerSchema (with_view schema view)
unfolding with_view
owner_schema-with_view schema view owner = record {
  numbered = owner.numbered;
  names = owner.names;
  columns = all-weaker (ColumnsRefer schema) (ColumnsRefer (with_view schema view)) (columns-with_view schema view) schema.tables owner.columns;
  edges = all-weaker (IsOwnerEdge schema) (IsOwnerEdge (with_view schema view)) (edge-with_view schema view) schema.edges owner.edges;
  each = owner.each;
  rise = owner.rise;
  rules = all-weaker (RulesWell schema) (RulesWell (with_view schema view)) (rules-with_view schema view) schema.edges owner.rules;
  acyclic = owner.acyclic;
  subjects = owner.subjects;
}

-- its edges are an ownership graph
owner-kept : (schema : Schema) (create : Create) → IsOwnerSchema schema → IsReadableCreate create → IsAdmitted schema create → IsOwnerSchema (with_create schema create)
owner-kept schema (OfTable table) owner readable admitted = owner_schema-with_table schema without_rows table owner admitted
owner-kept schema (OfView view) owner readable admitted = owner_schema-with_view schema view owner

pub owner_schema-created : (db : Db) → IsCreated db → IsOwnerSchema db.schema
owner_schema-created = kept-created IsOwnerSchema owner-kept owner_schema-empty

-- a schema within the limits, with its views
pub record AreWithin (schema : Schema) : Type 0 where
  pub tables : IsWithinLimits schema
  pub views : AreViewsWithin schema

limits-with_view : (schema : Schema) (view : CreateView) → IsWithinLimits schema → IsWithinLimits (with_view schema view)
unfolding with_view
limits-with_view schema view within = record { tables = within.tables; each = within.each }

-- a view that isn't refused is given
given-view : (schema : Schema) (view : CreateView) → lowest (view_faults schema view) ≡ None → bound_view schema view ≡ Ok (new_view schema view)
unfolding bound_view
given-view schema view none = rw none refl

views-with_view : (schema : Schema) (view : CreateView) → AreWithin schema → IsReadableCreate (OfView view) → lowest (view_faults schema view) ≡ None
    → AreViewsWithin (with_view schema view)
unfolding with_view
views-with_view schema view within readable none =
    views_within-with_view schema view (new_view schema view) within.tables within.views (written_view_within _ view readable.written) (given-view schema view none)

within-kept : (schema : Schema) (create : Create) → AreWithin schema → IsReadableCreate create → IsAdmitted schema create → AreWithin (with_create schema create)
within-kept schema (OfTable table) within readable admitted = record {
  tables = within_limits-with_table schema without_rows table within.tables admitted;
  views = views_within-with_table schema table within.views;
}
within-kept schema (OfView view) within readable admitted = record {
  tables = limits-with_view schema view within.tables;
  views = views-with_view schema view within readable admitted;
}

-- it is within the limits
within-all : (db : Db) → IsCreated db → AreWithin db.schema
within-all = kept-created AreWithin within-kept (record { tables = within_limits-empty; views = views_within-empty })

pub within-created : (db : Db) → IsCreated db → IsWithinLimits db.schema
within-created db is = (within-all db is).tables

pub views_within-created : (db : Db) → IsCreated db → AreViewsWithin db.schema
views_within-created db is = (within-all db is).views

-- and no column is of the kind of sums
plain-kept : (schema : Schema) (create : Create) → ArePlainTables schema → IsReadableCreate create → IsAdmitted schema create → ArePlainTables (with_create schema create)
unfolding with_view
plain-kept schema (OfTable table) plain readable admitted = plain-with_table _ schema table readable.written plain
plain-kept schema (OfView view) plain readable admitted = plain

pub plain-created : (db : Db) → IsCreated db → ArePlainTables db.schema
plain-created = kept-created ArePlainTables plain-kept tt
