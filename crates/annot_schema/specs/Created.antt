-- What a catalog represents, and what a CREATE TABLE adds to it.
use Rattle.std.specs.Prelude.{◌≡◌, ◌≤◌, ◌*◌, ◌∷◌, [], ◌++◌, ℕ, List, Bool, false, true, None, length}
use Rattle.own_model.specs.declared.create.CreateTable.{CreateTable}
use Rattle.own_model.specs.declared.limit.TheConstants.{TABLE_COLUMNS, VIEWS}
use Rattle.own_model.specs.declared.schema.CreateText.{CreateText}
use Rattle.own_model.specs.declared.schema.Schema.{Schema}
use Rattle.own_model.specs.declared.schema.ViewDef.{ViewDef}
use Rattle.schema_draft.specs.Names.{AreNamesOf, NameList}
use Rattle.owner_graph.specs.Graph.{GraphSeen, IsGraphOf}
use Rattle.schema_model.specs.NewEdges.{new_edges}
use Rattle.schema_model.specs.NewTable.{new_table}
use Rattle.schema_model.specs.OwnerSchema.{IsOwnerSchema}
use Rattle.schema_model.specs.Refusal.{refusal_of}
use Rattle.schema_model.specs.WithinLimits.{IsWithinLimits}
use Rattle.annot_schema.specs.declared.admitted.Admitted.{Admitted}

-- the schema that the creates gave, and their texts in order
pub record Created : Type 0 where
  pub schema : Schema
  pub creates : List CreateText

-- no create yet
abbrev pub nothing_created : Created
nothing_created = record { schema = record { tables = []; views = []; edges = [] }; creates = [] }

-- the schemas that admitted creates give
pub record IsSound (schema : Schema) : Type 0 where
  pub owner : IsOwnerSchema schema
  pub within : IsWithinLimits schema
  pub views : length schema.views ≤ VIEWS
  -- a column gives one edge at most
  pub edges : length schema.edges ≤ TABLE_COLUMNS * length schema.tables

-- the names are those of such a schema, and the graph is that of its edges
pub record IsCatalog (names : NameList) (graph : GraphSeen) (schema : Schema) : Type 0 where
  pub named : AreNamesOf names schema
  pub ordered : IsGraphOf (length schema.tables) schema.edges graph
  pub sound : IsSound schema

-- the table and the edges of a CREATE TABLE that isn't refused, by which tables hold rows
pub record IsAdmitted (schema : Schema) (holds_rows : ℕ → Bool) (create : CreateTable) (admitted : Admitted) : Type 0 where
  pub unrefused : refusal_of schema holds_rows create ≡ None
  pub table : admitted.table ≡ new_table schema create
  pub edges : admitted.edges ≡ new_edges schema create

-- those of some CREATE TABLE that isn't
pub record IsAdmissible (schema : Schema) (admitted : Admitted) : Type 0 where
  pub holds_rows : ℕ → Bool
  pub create : CreateTable
  pub by : IsAdmitted schema holds_rows create admitted

-- a schema with such a table and such edges at the end
abbrev pub schema_with : Schema → Admitted → Schema
schema_with schema admitted = record {
  tables = schema.tables ++ admitted.table ∷ [];
  views = schema.views;
  edges = schema.edges ++ admitted.edges;
}

-- a catalog with them, and the text of their create
abbrev pub created_with : Created → Admitted → List ℕ → Created
created_with before admitted text = record {
  schema = schema_with before.schema admitted;
  creates = before.creates ++ record { view = false; text = text } ∷ [];
}

-- a schema with a view at the end
abbrev pub schema_viewed : Schema → ViewDef → Schema
schema_viewed schema view = record {
  tables = schema.tables;
  views = schema.views ++ view ∷ [];
  edges = schema.edges;
}

-- a catalog with it, and the text of its create
abbrev pub created_viewed : Created → ViewDef → List ℕ → Created
created_viewed before view text = record {
  schema = schema_viewed before.schema view;
  creates = before.creates ++ record { view = true; text = text } ∷ [];
}
