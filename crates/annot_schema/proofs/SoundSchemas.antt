-- The schemas that admitted creates give.
use Rattle.std.proofs.Common.{◌≡◌, ◌<◌, ◌^◌, ◌+◌, ◌≤◌, ℕ, suc, List, ◌∷◌, [], ◌++◌, length, Bool, arith, sym, subst}
use Rattle.std.specs.Prelude.{Option, None, Some, filter_map}
use Rattle.std.specs.List.{cons_option, enumerate_from}
use Rattle.std.proofs.lemmas.List.{length-append, length-map}
use Rattle.std.proofs.lemmas.List.FromFn.{length-enumerate_from}
use Rattle.own_model.specs.declared.create.CreateTable.{CreateTable}
use Rattle.own_model.specs.declared.schema.Schema.{Schema}
use Rattle.schema_model.specs.Columns.{columns_of}
use Rattle.schema_model.specs.NewEdges.{edge_column, edge_columns, new_edge, new_edges}
use Rattle.schema_model.specs.NewTable.{new_column, new_table}
use Rattle.schema_model.specs.Refusal.{refusal_of}
use Rattle.schema_model.specs.WithTable.{with_table}
use Rattle.schema_model.proofs.Admitted.{admitted}
use Rattle.schema_model.proofs.LimitLemmas.{within_limits-empty, within_limits-with_table}
use Rattle.schema_model.proofs.OwnerSchemaLemmas.{owner_schema-empty, owner_schema-with_table}
use Rattle.annot_schema.specs.Created.{IsAdmissible, IsAdmitted, IsSound, nothing_created, schema_with}
use Rattle.annot_schema.specs.declared.admitted.Admitted.{Admitted}

-- that of no create
pub sound-empty : IsSound nothing_created.schema
sound-empty = record { owner = owner_schema-empty; within = within_limits-empty; views = omega arith; edges = omega arith }

-- what is admitted makes the schema after the CREATE
pub schema_with-admitted : (schema : Schema) (holds_rows : ℕ → Bool) (create : CreateTable) (admitted : Admitted) → IsAdmitted schema holds_rows create admitted
    → schema_with schema admitted ≡ with_table schema create
unfolding with_table
schema_with-admitted schema holds_rows create admitted by = λ i. record { tables = schema.tables ++ by.table i ∷ []; views = schema.views; edges = schema.edges ++ by.edges i }

-- a list is no longer for what some of its elements are made into
length-filter_map : {X Y : Type 0} (h : X → Option Y) (xs : List X) → length (filter_map h xs) ≤ length xs
length-filter_map h [] = omega arith
length-filter_map {X} {Y} h (x ∷ xs) = by (h x) (length-filter_map h xs)
  where
    by : (o : Option Y) → length (filter_map h xs) ≤ length xs → length (cons_option o (filter_map h xs)) ≤ suc (length xs)
    by None rest = omega arith
    by (Some y) rest = omega arith

-- a CREATE adds no more edges than columns
pub length-new_edges : (schema : Schema) (create : CreateTable) → length (new_edges schema create) ≤ length (columns_of create)
unfolding new_edges new_table
length-new_edges schema create =
    let columns = (new_table schema create).columns in
    omega (
      arith,
      length-map (enumerate_from (length schema.edges) (edge_columns schema create)) (λ numbered. new_edge schema create numbered.0 numbered.1),
      length-enumerate_from (length schema.edges) (edge_columns schema create),
      length-filter_map (λ numbered. edge_column numbered.0 numbered.1) (enumerate_from 0 columns),
      length-enumerate_from 0 columns,
      length-map (columns_of create) (new_column schema create),
    )

-- the schema after an admitted CREATE is such a schema
sound-with_table : (schema : Schema) (holds_rows : ℕ → Bool) (create : CreateTable) → IsSound schema → refusal_of schema holds_rows create ≡ None → IsSound (with_table schema create)
unfolding with_table
sound-with_table schema holds_rows create sound none = record {
  owner = owner_schema-with_table schema holds_rows create sound.owner none;
  within = within_limits-with_table schema holds_rows create sound.within none;
  views = sound.views;
  edges = omega (
    arith,
    sound.edges,
    length-append schema.edges (new_edges schema create),
    length-append schema.tables (new_table schema create ∷ []),
    length-new_edges schema create,
    (admitted schema holds_rows create none).few_columns,
  );
}

-- and so is the one with what is admitted
pub sound-with : (schema : Schema) (admitted : Admitted) → IsSound schema → IsAdmissible schema admitted → IsSound (schema_with schema admitted)
sound-with schema admitted sound by =
    subst IsSound (sym (schema_with-admitted schema by.holds_rows by.create admitted by.by)) (sound-with_table schema by.holds_rows by.create sound by.by.unrefused)

-- there is room for the numbers of the edges that a CREATE adds
pub edges-room : (schema : Schema) (create : CreateTable) → IsSound schema → length (columns_of create) < 2 ^ 31 → length schema.edges + length (columns_of create) ≤ 2 ^ 32
edges-room schema create sound columns = omega (arith, sound.edges, sound.within.tables)
