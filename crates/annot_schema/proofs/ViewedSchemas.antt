-- A view changes no table and no edge.
use Rattle.std.proofs.Common.{◌≡◌, ◌+◌, ◌<◌, ◌∷◌, [], ◌++◌, length, arith}
use Rattle.std.proofs.lemmas.List.{length-append}
use Rattle.own_model.specs.declared.limit.TheConstants.{VIEWS}
use Rattle.own_model.specs.declared.schema.Column.{Column}
use Rattle.own_model.specs.declared.schema.Edge.{Edge}
use Rattle.own_model.specs.declared.schema.RefKind.{RefKind}
use Rattle.own_model.specs.declared.schema.Schema.{Schema}
use Rattle.own_model.specs.declared.schema.TableDef.{TableDef}
use Rattle.own_model.specs.declared.schema.ViewDef.{ViewDef}
use Rattle.own_base.specs.declared.number.TableNo.{TableNo}
use Rattle.schema_model.specs.OwnerSchema.{ColumnsRefer, IsOwnerEdge, IsOwnerSchema, RefersToKey, RulesWell}
use Rattle.schema_model.proofs.Places.{all-weaker}
use Rattle.annot_schema.specs.Created.{IsSound, schema_viewed}

refers : (schema : Schema) (view : ViewDef) (column : Column) (link : RefKind × TableNo) → RefersToKey schema column link
    → RefersToKey (schema_viewed schema view) column link
refers schema view column link is = record { table = is.table; table_is = is.table_is; key = is.key; key_is = is.key_is; kind = is.kind }

columns : (schema : Schema) (view : ViewDef) (table : TableDef) → ColumnsRefer schema table → ColumnsRefer (schema_viewed schema view) table
columns schema view table refer number column link is refers_is =
    let own = refer number column link is refers_is in (own.0, refers schema view column link own.1)

edge-viewed : (schema : Schema) (view : ViewDef) (edge : Edge) → IsOwnerEdge schema edge → IsOwnerEdge (schema_viewed schema view) edge
edge-viewed schema view edge is = record {
  differ = is.differ;
  held = is.held;
  holder = is.holder;
  holder_is = is.holder_is;
  column = is.column;
  column_is = is.column_is;
  kind = is.kind;
  refers = is.refers;
  edges = is.edges;
  side = is.side;
  owner = is.owner;
}

rules-viewed : (schema : Schema) (view : ViewDef) (edge : Edge) → RulesWell schema edge → RulesWell (schema_viewed schema view) edge
rules-viewed schema view edge well = record { no_key = well.no_key; own_alone = well.own_alone }

-- so the schema with one view more is sound, where there is room for it
pub sound-viewed : (schema : Schema) (view : ViewDef) → IsSound schema → length schema.views < VIEWS → IsSound (schema_viewed schema view)
sound-viewed schema view sound room = record {
  owner = record {
    numbered = sound.owner.numbered;
    names = sound.owner.names;
    columns = all-weaker (ColumnsRefer schema) (ColumnsRefer (schema_viewed schema view)) (columns schema view) schema.tables sound.owner.columns;
    edges = all-weaker (IsOwnerEdge schema) (IsOwnerEdge (schema_viewed schema view)) (edge-viewed schema view) schema.edges sound.owner.edges;
    each = sound.owner.each;
    rise = sound.owner.rise;
    rules = all-weaker (RulesWell schema) (RulesWell (schema_viewed schema view)) (rules-viewed schema view) schema.edges sound.owner.rules;
    acyclic = sound.owner.acyclic;
    subjects = sound.owner.subjects;
  };
  within = record { tables = sound.within.tables; each = sound.within.each };
  views = (let longer = length-append schema.views (view ∷ []) in omega arith);
  edges = sound.edges;
}
