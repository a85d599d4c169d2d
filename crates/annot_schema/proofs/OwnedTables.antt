-- A CREATE TABLE that breaks no rule and closes no walk has no OWNS column that names its own table, so each names one of
-- the schema.
use Rattle.std.proofs.Common.{◌≡◌, ◌≢◌, ℕ, zero, suc, ◌+◌, ◌<◌, List, [], ◌∷◌, ◌++◌, length, map, true, false, not, cond, refl, ap, sym, ◌∙◌, arith}
use Rattle.std.specs.Prelude.{Option, None, Some, filter_map, slice_get, bytes_eq}
use Rattle.std.specs.Option.{option_map}
use Rattle.std.specs.List.{enumerate_from}
use Rattle.std.proofs.lemmas.Bool.{not-false}
use Rattle.own_base.specs.declared.number.TableNo.{TableNo}
use Rattle.own_model.specs.declared.create.Attr.{Attr}
use Rattle.own_model.specs.declared.create.Attr.TheVariants as attr
use Rattle.own_model.specs.declared.create.ColumnDef.{ColumnDef}
use Rattle.own_model.specs.declared.create.CreateTable.{CreateTable}
use Rattle.own_model.specs.declared.create.Part.{Part}
use Rattle.own_model.specs.declared.create.Part.TheVariants as part
use Rattle.own_model.specs.declared.refusal.Refusal.TheVariants.{Cycle as Reported}
use Rattle.own_model.specs.declared.schema.Column.{Column}
use Rattle.own_model.specs.declared.schema.Edge.{Edge}
use Rattle.own_model.specs.declared.schema.RefKind.{RefKind}
use Rattle.own_model.specs.declared.schema.RefKind.TheVariants.{Plain, OwnedBy, Owns, AccessedBy, Accesses}
use Rattle.own_model.specs.declared.schema.Schema.{Schema}
use Rattle.owner_model.specs.Cycle.{Cycle, cycle_of}
use Rattle.owner_model.specs.Leads.{leads}
use Rattle.schema_model.specs.Columns.{NameBytes, column_names, column_of, columns_of, is_named}
use Rattle.schema_model.specs.Kinds.{gives_edge, is_owns, is_upward}
use Rattle.schema_model.specs.NewEdges.{EdgeColumn, edge_column, edge_columns, new_edge, new_edges}
use Rattle.schema_model.specs.NewTable.{link_of, new_column, new_table}
use Rattle.schema_model.specs.OwnerSchema.{IsOwnerSchema}
use Rattle.schema_model.specs.References.{Reference, part_references, reference_after, reference_on, references_of}
use Rattle.schema_model.specs.Refusal.{broken, closed, first_broken, name_of}
use Rattle.schema_model.specs.Tables.{number_of}
use Rattle.schema_model.specs.rules.MissingColumns.{missing_columns, stands_on}
use Rattle.schema_model.specs.rules.SecondReferences.{second_references}
use Rattle.schema_model.proofs.Admitted.{map_none, unbroken}
use Rattle.schema_model.proofs.Cycles.{leads-edge, leads-unclosed}
use Rattle.schema_model.proofs.Found.{find-only}
use Rattle.schema_model.proofs.Names.{distinct-unrepeated, equal_name, one_place, same_name}
use Rattle.schema_model.proofs.Places.{IsIn, all-at, all-from_places, any-place, filter-none, in_filter_map, in_flat_map, of_filter_map, slice_get-append_after, slice_get-in_map, slice_get-of_map}
use Rattle.annot_schema.specs.OwnedTables.{OwnsTableOf, OwnsTablesOf}
use Rattle.annot_schema.proofs.EdgesWithin.{edges_within, number_of-le}

-- a column of this name, among those of a CREATE
pub record HasColumn (create : CreateTable) (name : NameBytes) : Type 0 where
  pub column : ColumnDef
  pub among : IsIn (columns_of create) column
  pub named : column.name ≡ name

module _ (create : CreateTable) (there : missing_columns create ≡ []) where
  -- what a constraint stands on is a column
  stands-on_column : (of : Part) (name : NameBytes) → IsIn create.parts of → stands_on of ≡ Some name → HasColumn create name
  unfolding missing_columns
  stands-on_column of name among stands =
      let names = filter_map stands_on create.parts in
      let each = filter-none (λ name. not (is_named (column_names create) name)) names there in
      let one = in_filter_map stands_on create.parts of name among stands in
      let named : is_named (column_names create) name ≡ true =
      not-false _ (all-at (λ name. not (is_named (column_names create) name) ≡ false) names each one.0 name one.1) in
      let place = any-place (λ other. bytes_eq other name) (column_names create) named in
      let column = slice_get-of_map (λ column. column.name) (columns_of create) place.1.0 place.0 place.1.1 in
      record { column = column.0; among = (place.1.0, column.1); named = column.2 ∙ same_name place.0 name place.2 }

  -- so is what has a reference
  after_column : (column : ColumnDef) (of : Attr) (reference : Reference) → reference_after column.name of ≡ Some reference → reference.column ≡ column.name
  after_column column attr.Key reference is = cc
  after_column column attr.NotNull reference is = cc
  after_column column attr.Unique reference is = cc
  after_column column (attr.Refers refers) reference is = cc

  reference_step : (of : Part) (reference : Reference) → IsIn create.parts of → IsIn (part_references of) reference → HasColumn create reference.column
  reference_step (part.Column column) reference among own =
      let from = of_filter_map (reference_after column.name) column.attrs reference own in
      record {
        column = column;
        among = in_filter_map column_of create.parts (part.Column column) column among refl;
        named = sym (after_column column from.0 reference from.2);
      }
  reference_step (part.Key column) reference among (place, is) = cc
  reference_step (part.Unique column) reference among (place, is) = cc
  reference_step (part.Foreign column refers) reference among (zero, is) =
      let own : column ≡ reference.column = cc in
      stands-on_column (part.Foreign column refers) reference.column among (ap (λ name. Some name) own)
  reference_step (part.Foreign column refers) reference among (suc place, is) = cc
  reference_step (part.Get column hidden) reference among (place, is) = cc
  reference_step (part.Del column blanked) reference among (place, is) = cc
  reference_step (part.DelRow column) reference among (place, is) = cc

  pub reference-column : (reference : Reference) → IsIn (references_of create) reference → HasColumn create reference.column
  reference-column reference among =
      let from = in_flat_map part_references create.parts reference among in
      reference_step from.0 reference from.1 from.2

-- where no column has a second reference, each is the one of its column
pub reference-only : (create : CreateTable) (reference : Reference) → second_references create ≡ [] → IsIn (references_of create) reference
    → reference_on create reference.column ≡ Some reference
unfolding second_references
reference-only create reference single among =
    let names = map (λ reference. reference.column) (references_of create) in
    let differ = distinct-unrepeated names single in
    find-only (λ other. bytes_eq other.column reference.column) (references_of create) among.0 reference among.1 (equal_name reference.column reference.column refl)
    (λ place other is passes. one_place names differ place among.0 reference.column
    (slice_get-in_map (λ reference. reference.column) (references_of create) place other is ∙ ap (λ name. Some name) (same_name other.column reference.column passes))
    (slice_get-in_map (λ reference. reference.column) (references_of create) among.0 reference among.1))

-- an element stands in the list with its number
in_enumerate_from : {X : Type 0} (number : ℕ) (xs : List X) (place : ℕ) (x : X) → slice_get xs place ≡ Some x → IsIn (enumerate_from number xs) (number + place, x)
in_enumerate_from number [] place x is = let never : ⊥ = cc in absurd never
in_enumerate_from {X} number (first ∷ xs) zero x is =
    let same : first ≡ x = cc in
    let same_number : number ≡ number + 0 = omega arith in
    (0, λ i. Some (same_number i, same i))
in_enumerate_from {X} number (first ∷ xs) (suc place) x is =
    let later = in_enumerate_from (number + 1) xs place x is in
    let same_number : (number + 1) + place ≡ number + suc place = omega arith in
    (suc later.0, later.1 ∙ λ i. Some (same_number i, x))

-- OWNS gives an edge that leads up to the table that has the column
owns-edge : (kind : RefKind) → is_owns kind ≡ true → (gives_edge kind ≡ true) × (is_upward kind ≡ false)
owns-edge Plain owns = cc
owns-edge OwnedBy owns = cc
owns-edge Owns owns = (refl, refl)
owns-edge AccessedBy owns = cc
owns-edge Accesses owns = cc

-- an edge among the new ones, from a table of this number up to the new table
pub record LeadsToNew (schema : Schema) (create : CreateTable) (table : ℕ) : Type 0 where
  pub edge : Edge
  pub among : IsIn (new_edges schema create) edge
  pub lower : edge.lower.0 ≡ table
  pub upper : edge.upper.0 ≡ length schema.tables

module _ (schema : Schema) (create : CreateTable) (reference : Reference) (owns : is_owns reference.refers.kind ≡ true) where
  -- the column of an OWNS reference, and its number
  module _ (column : ColumnDef) (number : ℕ) (named : column.name ≡ reference.column) (only : reference_on create reference.column ≡ Some reference) where
    refers : (new_column schema create column).refers ≡ Some (link_of schema reference)
    unfolding new_column
    refers = ap (λ name. option_map (link_of schema) (reference_on create name)) named ∙ ap (option_map (link_of schema)) only

    from : EdgeColumn
    from = record { column = number; name = (new_column schema create column).name; kind = reference.refers.kind; target = record { 0 = number_of schema reference.refers.table } }

    gives_step : (link : Option (RefKind × TableNo)) → link ≡ Some (link_of schema reference) → (made : Column) → made.refers ≡ link → edge_column number made ≡ cond (gives_edge reference.refers.kind) (Some (record { column = number; name = made.name; kind = reference.refers.kind; target = record { 0 = number_of schema reference.refers.table } })) None
    gives_step link is made refers = rw (refers, is) refl

    gives : edge_column number (new_column schema create column) ≡ Some from
    unfolding from
    gives = gives_step _ refers (new_column schema create column) refl ∙ rw (owns-edge reference.refers.kind owns).0 refl

    lower-from : (place : ℕ) → (new_edge schema create place from).lower.0 ≡ number_of schema reference.refers.table
    unfolding from new_edge
    lower-from place = rw (owns-edge reference.refers.kind owns).1 refl

    upper-from : (place : ℕ) → (new_edge schema create place from).upper.0 ≡ length schema.tables
    unfolding from new_edge
    upper-from place = rw (owns-edge reference.refers.kind owns).1 refl

  -- the edge of the column
  leads_to_new : HasColumn create reference.column → reference_on create reference.column ≡ Some reference → LeadsToNew schema create (number_of schema reference.refers.table)
  unfolding new_table new_edges
  leads_to_new has only =
      let number = has.among.0 in
      let made = slice_get-in_map (new_column schema create) (columns_of create) number has.column has.among.1 in
      let numbered = in_enumerate_from 0 (new_table schema create).columns number (new_column schema create has.column) made in
      let column = in_filter_map (λ numbered. edge_column numbered.0 numbered.1) (enumerate_from 0 (new_table schema create).columns)
      (0 + number, new_column schema create has.column) (from has.column (0 + number) has.named only) numbered (gives has.column (0 + number) has.named only) in
      let next = in_enumerate_from (length schema.edges) (edge_columns schema create) column.0 (from has.column (0 + number) has.named only) column.1 in
      let place = length schema.edges + column.0 in
      record {
        edge = new_edge schema create place (from has.column (0 + number) has.named only);
        among = (
          next.0,
          slice_get-in_map (λ numbered. new_edge schema create numbered.0 numbered.1) (enumerate_from (length schema.edges) (edge_columns schema create))
              next.0 (place, from has.column (0 + number) has.named only) next.1,
        );
        lower = lower-from has.column (0 + number) has.named only place;
        upper = upper-from has.column (0 + number) has.named only place;
      }

module _ (schema : Schema) (create : CreateTable) (owner : IsOwnerSchema schema) (none : cycle_of (length schema.tables + 1) (schema.edges ++ new_edges schema create) ≡ None) where
  -- no new edge leads from the new table to itself
  not_itself : (table : ℕ) → LeadsToNew schema create table → table ≢ length schema.tables
  not_itself table own same =
      let edges = schema.edges ++ new_edges schema create in
      let tables = length schema.tables in
      let there = slice_get-append_after schema.edges (new_edges schema create) own.among.0 own.edge own.among.1 in
      let walk = leads-edge edges (length schema.edges + own.among.0) own.edge there in
      let around : leads edges tables tables ≡ true = rw (own.lower, same, own.upper) at walk in
      let within = edges_within schema create owner in
      let small : tables < tables + 1 = omega arith in
      let unclosed = leads-unclosed (tables + 1) edges
      (λ place edge is. (all-at (λ edge. (edge.lower.0 < tables + 1) × (edge.upper.0 < tables + 1)) edges within place edge is).1) none tables small in
      let never : ⊥ = cc in never

  -- so each OWNS column names a table of the schema
  pub owns_tables : missing_columns create ≡ [] → second_references create ≡ [] → OwnsTablesOf schema create
  owns_tables there single = all-from_places (OwnsTableOf schema) (references_of create)
      (λ place reference is owns.
      let among : IsIn (references_of create) reference = (place, is) in
      let own = leads_to_new schema create reference owns (reference-column create there reference among) (reference-only create reference single among) in
      let differs = not_itself (number_of schema reference.refers.table) own in
      let near = number_of-le schema reference.refers.table in
      omega arith)

-- where no rule is broken and no walk is closed
pub owns_tables-unbroken : (schema : Schema) (create : CreateTable) → IsOwnerSchema schema → first_broken 1 (broken schema create) ≡ None → closed schema create ≡ None → OwnsTablesOf schema create
unfolding broken
owns_tables-unbroken schema create owner kept unclosed =
    let each = unbroken 1 (broken schema create) kept in
    let none = map_none (λ (cycle : Cycle). Reported (name_of schema create cycle.table) (name_of schema create cycle.through)) (cycle_of (length schema.tables + 1) (schema.edges ++ new_edges schema create)) unclosed in
    owns_tables schema create owner none each.1.1.0 each.1.1.1.0
