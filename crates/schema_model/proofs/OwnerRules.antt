-- The ON DEL rules of the schema that an admitted CREATE TABLE gives.
use Rattle.std.proofs.Common.{◌≡◌, ℕ, ◌++◌, length, true, false, not, eqb, inl, inr, refl, ap, sym, ◌∙◌, arith}
use Rattle.std.specs.Prelude.{◌⊎◌, Some, slice_get, IsTrue}
use Rattle.std.specs.Option.{option_map_or}
use Rattle.std.specs.List.{AllByRecursion}
use Rattle.std.proofs.lemmas.Bool.{and_parts, eq-eqb, false_from_ne_true, not-true}
use Rattle.own_model.specs.declared.create.CreateTable.{CreateTable}
use Rattle.own_model.specs.declared.schema.Column.{Column}
use Rattle.own_model.specs.declared.schema.Edge.{Edge}
use Rattle.own_model.specs.declared.schema.Schema.{Schema}
use Rattle.own_model.specs.declared.schema.TableDef.{TableDef}
use Rattle.owner_model.specs.ColumnSets.{has_column}
use Rattle.schema_model.specs.Kinds.{is_upward}
use Rattle.schema_model.specs.NewEdges.{new_edges}
use Rattle.schema_model.specs.NewTable.{new_table, tables_with}
use Rattle.schema_model.specs.OwnerSchema.{ColumnsDiffer, IsOwnerEdge, IsOwnerSchema, RulesWell}
use Rattle.schema_model.specs.Tables.{is_subject}
use Rattle.schema_model.specs.WithTable.{with_table}
use Rattle.schema_model.specs.rules.ColumnsNotToRule.{has_edge, is_open}
use Rattle.schema_model.proofs.Admitted.{IsAdmitted}
use Rattle.schema_model.proofs.EdgeEnds.{EndsBelow, ends-old}
use Rattle.schema_model.proofs.NewColumns.{refers_no_key}
use Rattle.schema_model.proofs.NewEdgeLemmas.{IsNewEdge, lower_up, new_column_no, new_edge-made, new_holder, one_new_edge}
use Rattle.schema_model.proofs.OwnerEdges.{edges-with_table}
use Rattle.schema_model.proofs.OwnerTables.{names-with_table, old_subject, old_table}
use Rattle.schema_model.proofs.Places.{IsIn, all-append, all-at, all-from_places, in_append, slice_get-push}
use Rattle.schema_model.proofs.RuledLemmas.{IsRuledWell, reference_of_edge, ruled_well}

-- what is open is no key
open_no_key : (table : TableDef) → is_open table table.key.0 ≡ true → ⊥
open_no_key table opens =
    let parts = and_parts (not (eqb table.key.0 table.key.0)) (option_map_or (λ column. not (has_edge column)) (slice_get table.columns table.key.0) false) opens in
    let differs = not-true (eqb table.key.0 table.key.0) parts.0 in
    let equal = eq-eqb table.key.0 table.key.0 refl in
    cc

-- and no column of an edge
open_no_edge : (table : TableDef) (number : ℕ) (column : Column) → is_open table number ≡ true → slice_get table.columns number ≡ Some column → has_edge column ≡ false
open_no_edge table number column opens is =
    let parts = and_parts (not (eqb number table.key.0)) (option_map_or (λ column. not (has_edge column)) (slice_get table.columns number) false) opens in
    let own : not (has_edge column) ≡ true = rw is at parts.1 in
    not-true (has_edge column) own

module _ (schema : Schema) (create : CreateTable) (owner : IsOwnerSchema schema) (admitted : IsAdmitted schema create) where
  module _ (ruling : Edge) (by : IsNewEdge schema create ruling) where
    key_case : (table : TableDef) → slice_get (tables_with schema create) ruling.lower.0 ≡ Some table → IsRuledWell schema create ruling by table table.key.0 → ⊥
    key_case table is (inl opens) = open_no_key table opens
    key_case table is (inr own) =
        let at : slice_get (tables_with schema create) (length schema.tables) ≡ Some table = rw (lower_up schema create ruling by own.0) at is in
        let new = slice_get-push schema.tables (new_table schema create) in
        let same : new_table schema create ≡ table = cc in
        refers_no_key schema create by.from.column by.column (by.from.kind, by.from.target) admitted (reference_of_edge schema create admitted ruling by)
        (sym own.1 ∙ ap (λ table. table.key.0) (sym same))

    -- a new edge rules no key
    new_no_key : (table : TableDef) → slice_get (tables_with schema create) ruling.lower.0 ≡ Some table → has_column ruling.del table.key.0 ≡ false
    new_no_key table is =
        false_from_ne_true _ (λ has. key_case table is (ruled_well schema create admitted ruling by table table.key.0 is
        (all-at ColumnsDiffer (tables_with schema create) (names-with_table schema create owner admitted) ruling.lower.0 table is) has))

    same_edge : (edge : Edge) → edge.holder ≡ ruling.lower → is_upward by.from.kind ≡ true → edge.column.0 ≡ by.from.column
        → IsIn schema.edges edge ⊎ IsIn (new_edges schema create) edge → edge ≡ ruling
    same_edge edge held up column (inl old) =
        let ends = ends-old schema old.0 edge owner old.1 in
        let below = ends.holder in
        let number : edge.holder.0 ≡ length schema.tables = ap (λ table. table.0) (held ∙ lower_up schema create ruling by up) in
        absurd (omega arith)
    same_edge edge held up column (inr new) =
        let too = new_edge-made schema create edge new in
        one_new_edge schema create edge ruling too by (sym (new_column_no schema create edge too) ∙ column)

    alone_case : (edge : Edge) (own : IsOwnerEdge (with_table schema create) edge) → IsIn (schema.edges ++ new_edges schema create) edge → edge.holder ≡ ruling.lower
        → IsRuledWell schema create ruling by own.holder edge.column.0 → (edge ≡ ruling) × IsTrue (is_subject (with_table schema create) ruling.upper.0)
    alone_case edge own among held (inl opens) =
        let none = open_no_edge own.holder edge.column.0 own.column opens own.column_is in
        let refers = own.refers in
        let gives : has_edge own.column ≡ true = rw refers own.edges in
        let never : ⊥ = cc in absurd never
    alone_case edge own among held (inr well) =
        (same_edge edge held well.0 well.1 (in_append schema.edges (new_edges schema create) edge among), well.2)

    -- and of the columns of edges its own alone
    new_alone : (place : ℕ) (edge : Edge) → slice_get (schema.edges ++ new_edges schema create) place ≡ Some edge → edge.holder ≡ ruling.lower
        → has_column ruling.del edge.column.0 ≡ true → (edge ≡ ruling) × IsTrue (is_subject (with_table schema create) ruling.upper.0)
    unfolding with_table
    new_alone place edge is held has =
        let own = all-at (IsOwnerEdge (with_table schema create)) (schema.edges ++ new_edges schema create) (edges-with_table schema create owner admitted) place edge is in
        let lower : slice_get (tables_with schema create) ruling.lower.0 ≡ Some own.holder =
        sym (ap (λ table. slice_get (tables_with schema create) table.0) held) ∙ own.holder_is in
        alone_case edge own (place, is) held (ruled_well schema create admitted ruling by own.holder edge.column.0 lower
        (all-at ColumnsDiffer (tables_with schema create) (names-with_table schema create owner admitted) ruling.lower.0 own.holder lower) has)

    new_rules : RulesWell (with_table schema create) ruling
    unfolding with_table
    new_rules = record { no_key = new_no_key; own_alone = all-from_places _ (schema.edges ++ new_edges schema create) new_alone }

  module _ (ruling : Edge) (ends : EndsBelow (length schema.tables) ruling) (rules : RulesWell schema ruling) where
    old_alone : (edge : Edge) → IsIn schema.edges edge ⊎ IsIn (new_edges schema create) edge → edge.holder ≡ ruling.lower
        → has_column ruling.del edge.column.0 ≡ true → (edge ≡ ruling) × IsTrue (is_subject (with_table schema create) ruling.upper.0)
    old_alone edge (inl old) held has =
        let own = all-at _ schema.edges rules.own_alone old.0 edge old.1 held has in
        (own.0, old_subject schema create ruling.upper.0 ends.upper ∙ own.1)
    old_alone edge (inr new) held has =
        let number : length schema.tables ≡ ruling.lower.0 = ap (λ table. table.0) (sym (new_holder schema create edge (new_edge-made schema create edge new)) ∙ held) in
        let below = ends.lower in
        absurd (omega arith)

    old_rules : RulesWell (with_table schema create) ruling
    unfolding with_table
    old_rules = record {
      no_key = λ table is. rules.no_key table (sym (old_table schema create ruling.lower.0 ends.lower) ∙ is);
      own_alone = all-from_places _ (schema.edges ++ new_edges schema create)
          (λ place edge is. old_alone edge (in_append schema.edges (new_edges schema create) edge (place, is)));
    }

  -- each edge rules well
  pub rules-with_table : AllByRecursion (RulesWell (with_table schema create)) (with_table schema create).edges
  unfolding with_table
  rules-with_table =
      all-append (RulesWell (with_table schema create)) schema.edges (new_edges schema create)
      (all-from_places (RulesWell (with_table schema create)) schema.edges
      (λ place ruling is. old_rules ruling (ends-old schema place ruling owner is) (all-at (RulesWell schema) schema.edges owner.rules place ruling is)))
      (all-from_places (RulesWell (with_table schema create)) (new_edges schema create) (λ place ruling is. new_rules ruling (new_edge-made schema create ruling (place, is))))
