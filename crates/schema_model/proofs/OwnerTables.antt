-- The tables of the schema that an admitted CREATE TABLE gives.
use Rattle.std.proofs.Common.{◌≡◌, ℕ, suc, ◌+◌, ◌<◌, List, [], ◌∷◌, ◌++◌, map, length, false, refl, ap, sym, ◌∙◌, arith}
use Rattle.std.specs.Prelude.{slice_get}
use Rattle.std.specs.Option.{option_map_or}
use Rattle.std.specs.List.{AllByRecursion, enumerate_from, range_with_len}
use Rattle.std.proofs.lemmas.List.{length-append, map-append}
use Rattle.own_base.specs.declared.number.TableNo.{TableNo}
use Rattle.own_model.specs.declared.create.CreateTable.{CreateTable}
use Rattle.own_model.specs.declared.schema.Column.{Column}
use Rattle.own_model.specs.declared.schema.Edge.{Edge}
use Rattle.own_model.specs.declared.schema.RefKind.{RefKind}
use Rattle.own_model.specs.declared.schema.Schema.{Schema}
use Rattle.schema_model.specs.NewEdges.{EdgeColumn, edge_columns, new_edge, new_edges}
use Rattle.schema_model.specs.NewTable.{new_table, tables_with}
use Rattle.schema_model.specs.OwnerSchema.{ColumnsDiffer, ColumnsRefer, IsOwnerSchema, RefersToKey}
use Rattle.schema_model.specs.Tables.{is_subject}
use Rattle.schema_model.specs.WithTable.{with_table}
use Rattle.schema_model.proofs.Admitted.{IsAdmitted}
use Rattle.schema_model.proofs.NewColumns.{columns_differ, new_columns_refer}
use Rattle.schema_model.proofs.Places.{all-append, all-weaker, range-append, slice_get-append, slice_get-append_below}

-- a table of the schema is one of the schema with the new table
pub old_refers : (schema : Schema) (create : CreateTable) (column : Column) (link : RefKind × TableNo) → RefersToKey schema column link → RefersToKey (with_table schema create) column link
unfolding with_table
old_refers schema create column link refers = record {
  table = refers.table;
  table_is = slice_get-append schema.tables (new_table schema create ∷ []) link.1.0 refers.table refers.table_is;
  key = refers.key;
  key_is = refers.key_is;
  kind = refers.kind;
}

-- below the new table's number it has the same tables
pub old_table : (schema : Schema) (create : CreateTable) (number : ℕ) → number < length schema.tables → slice_get (tables_with schema create) number ≡ slice_get schema.tables number
old_table schema create number below = slice_get-append_below schema.tables (new_table schema create ∷ []) number below

-- and the same data subjects
pub old_subject : (schema : Schema) (create : CreateTable) (number : ℕ) → number < length schema.tables → is_subject (with_table schema create) number ≡ is_subject schema number
unfolding with_table
old_subject schema create number below = ap (λ o. option_map_or (λ table. table.subject) o false) (old_table schema create number below)

-- each reference of each table's columns names a key of its kind
pub columns-with_table : (schema : Schema) (create : CreateTable) → IsOwnerSchema schema → IsAdmitted schema create
    → AllByRecursion (ColumnsRefer (with_table schema create)) (with_table schema create).tables
unfolding with_table
columns-with_table schema create owner admitted =
    all-append (ColumnsRefer (with_table schema create)) schema.tables (new_table schema create ∷ [])
    (all-weaker (ColumnsRefer schema) (ColumnsRefer (with_table schema create))
    (λ table each number column link is refers. let own = each number column link is refers in (own.0, old_refers schema create column link own.1))
    schema.tables owner.columns)
    (new_columns_refer schema create admitted, tt)

-- no table has two columns of one name
pub names-with_table : (schema : Schema) (create : CreateTable) → IsOwnerSchema schema → IsAdmitted schema create → AllByRecursion ColumnsDiffer (tables_with schema create)
names-with_table schema create owner admitted =
    all-append ColumnsDiffer schema.tables (new_table schema create ∷ []) owner.names (columns_differ schema create admitted.differ, tt)

numbers_of_new : (schema : Schema) (create : CreateTable) (number : ℕ) (columns : List EdgeColumn)
    → map (λ edge. edge.number.0) (map (λ numbered. new_edge schema create numbered.0 numbered.1) (enumerate_from number columns)) ≡ range_with_len number (length columns)
unfolding new_edge
numbers_of_new schema create number [] = refl
numbers_of_new schema create number (column ∷ columns) = ap (λ rest. number ∷ rest) (numbers_of_new schema create (number + 1) columns)

length-new : (schema : Schema) (create : CreateTable) (number : ℕ) (columns : List EdgeColumn)
    → length (map (λ numbered. new_edge schema create numbered.0 numbered.1) (enumerate_from number columns)) ≡ length columns
length-new schema create number [] = refl
length-new schema create number (column ∷ columns) = ap suc (length-new schema create (number + 1) columns)

-- the edges are numbered in a row
pub numbered-with_table : (schema : Schema) (create : CreateTable) → IsOwnerSchema schema
    → map (λ edge. edge.number.0) (with_table schema create).edges ≡ range_with_len 0 (length (with_table schema create).edges)
unfolding with_table new_edges
numbered-with_table schema create owner =
    let new = new_edges schema create in
    let split : map (λ (edge : Edge). edge.number.0) (schema.edges ++ new) ≡ map (λ edge. edge.number.0) schema.edges ++ map (λ edge. edge.number.0) new = map-append (λ (edge : Edge). edge.number.0) schema.edges new in
    let count : length (schema.edges ++ new) ≡ length schema.edges + length (edge_columns schema create) =
    length-append schema.edges new ∙ ap (λ n. length schema.edges + n) (length-new schema create (length schema.edges) (edge_columns schema create)) in
    split
    ∙ ap (λ front. front ++ map (λ edge. edge.number.0) new) owner.numbered
    ∙ ap (λ back. range_with_len 0 (length schema.edges) ++ back) (numbers_of_new schema create (length schema.edges) (edge_columns schema create))
    ∙ range-append 0 (length schema.edges) (length (edge_columns schema create)) (length schema.edges) (omega arith)
    ∙ ap (range_with_len 0) (sym count)
