-- Each column that refers by a kind that gives an edge has one, and the edges stand by table, then by column.
use Rattle.std.proofs.Common.{◌≡◌, ℕ, zero, suc, ◌+◌, ◌<◌, List, [], ◌∷◌, ◌++◌, map, length, inl, inr, refl, ap, sym, ◌∙◌, subst, arith}
use Rattle.std.specs.Prelude.{◌⊎◌, Option, None, Some, IsTrue, slice_get}
use Rattle.std.specs.List.{enumerate_from}
use Rattle.own_base.specs.declared.number.TableNo.{TableNo}
use Rattle.own_model.specs.declared.create.CreateTable.{CreateTable}
use Rattle.own_model.specs.declared.schema.Column.{Column}
use Rattle.own_model.specs.declared.schema.Edge.{Edge}
use Rattle.own_model.specs.declared.schema.RefKind.{RefKind}
use Rattle.own_model.specs.declared.schema.Schema.{Schema}
use Rattle.own_model.specs.declared.schema.TableDef.{TableDef}
use Rattle.schema_model.specs.Kinds.{gives_edge}
use Rattle.schema_model.specs.NewEdges.{EdgeColumn, edge_column, edge_columns, new_edge, new_edges}
use Rattle.schema_model.specs.NewTable.{new_table}
use Rattle.schema_model.specs.OwnerSchema.{ColumnsHaveEdges, ComesBefore, EdgesRise, HasEdge, IsOwnerSchema}
use Rattle.schema_model.specs.WithTable.{with_table}
use Rattle.schema_model.proofs.EdgeEnds.{ends-old}
use Rattle.schema_model.proofs.NewEdgeLemmas.{IsNewEdge, new_column_no, new_edge-made, new_edge-place, new_holder, rising_columns}
use Rattle.schema_model.proofs.Places.{in_filter_map, slice_get-append, slice_get-append_after, place-lt, slice_get-in_map}

module _ {X : Type 0} where
  -- a place of two lists in a row is one of the first, or one behind it
  at_append : (xs ys : List X) (place : ℕ) (x : X) → slice_get (xs ++ ys) place ≡ Some x
      → (slice_get xs place ≡ Some x) ⊎ ((behind : ℕ) × (place ≡ length xs + behind) × (slice_get ys behind ≡ Some x))
  at_append [] ys place x is = inr (place, omega arith, is)
  at_append (first ∷ xs) ys zero x is = inl is
  at_append (first ∷ xs) ys (suc place) x is = elim (at_append xs ys place x is) [
    | inl own ↦ inl own
    | inr later ↦ (let n = later.1 in inr (later.0, omega arith, later.2))
  ]

  -- an element with its number
  numbered_at : (number : ℕ) (xs : List X) (place : ℕ) (x : X) → slice_get xs place ≡ Some x → slice_get (enumerate_from number xs) place ≡ Some (number + place, x)
  numbered_at number [] place x is = let never : ◌≡◌ {A = Option X} None (Some x) = is in cc
  numbered_at number (first ∷ xs) zero x is =
      let same : first ≡ x = cc in
      let n : number ≡ number + zero = omega arith in
      let pair : ℕ → X → ℕ × X = λ n x. (n, x) in
      ap (λ x. Some (pair number x)) same ∙ ap (λ n. Some (pair n x)) n
  numbered_at number (first ∷ xs) (suc place) x is =
      let n : number + 1 + place ≡ number + suc place = omega arith in
      let pair : ℕ → ℕ × X = λ n. (n, x) in
      numbered_at (number + 1) xs place x is ∙ ap (λ n. Some (pair n)) n

module _ (schema : Schema) (create : CreateTable) (owner : IsOwnerSchema schema) where
  -- an edge of the schema stands before each new one
  old_new : (place : ℕ) (edge other : Edge) → slice_get schema.edges place ≡ Some edge → IsNewEdge schema create other → ComesBefore edge other
  old_new place edge other is by =
      let ends = (ends-old schema place edge owner is).holder in
      let holder = ap (λ (table : TableNo). table.0) (new_holder schema create other by) in
      inl (omega arith)

  -- and of new ones the one whose column has the lesser number
  new_new : (place behind : ℕ) (edge other : Edge) → place < behind → slice_get (new_edges schema create) place ≡ Some edge → slice_get (new_edges schema create) behind ≡ Some other
      → ComesBefore edge other
  new_new place behind edge other before is there =
      let one = new_edge-made schema create edge (place, is) in
      let two = new_edge-made schema create other (behind, there) in
      let rises = rising_columns schema create one.from two.from place behind before (made_at place edge is) (made_at behind other there) in
      let first = new_column_no schema create edge one in
      let second = new_column_no schema create other two in
      inr (new_holder schema create edge one ∙ sym (new_holder schema create other two), omega arith)
    where
      made_at : (place : ℕ) (edge : Edge) (is : slice_get (new_edges schema create) place ≡ Some edge)
          → slice_get (edge_columns schema create) place ≡ Some (new_edge-made schema create edge (place, is)).from
      made_at place edge is =
          subst (λ n. slice_get (edge_columns schema create) n ≡ Some (new_edge-made schema create edge (place, is)).from) (new_edge-place schema create edge place is) (new_edge-made schema create edge (place, is)).from_is

  rise_case : (place behind : ℕ) (edge other : Edge) → place < behind
      → (slice_get schema.edges place ≡ Some edge) ⊎ ((at : ℕ) × (place ≡ length schema.edges + at) × (slice_get (new_edges schema create) at ≡ Some edge))
      → (slice_get schema.edges behind ≡ Some other) ⊎ ((at : ℕ) × (behind ≡ length schema.edges + at) × (slice_get (new_edges schema create) at ≡ Some other))
      → ComesBefore edge other
  rise_case place behind edge other before (inl is) (inl there) = owner.rise place behind edge other before is there
  rise_case place behind edge other before (inl is) (inr there) = old_new place edge other is (new_edge-made schema create other (there.0, there.2))
  rise_case place behind edge other before (inr is) (inl there) =
      let n = is.1 in let below = place-lt schema.edges behind other there in absurd (omega arith)
  rise_case place behind edge other before (inr is) (inr there) = let n = is.1 in let m = there.1 in new_new is.0 there.0 edge other (omega arith) is.2 there.2

  pub rise-with_table : EdgesRise (with_table schema create).edges
  unfolding with_table
  rise-with_table place behind edge other before is there =
      rise_case place behind edge other before (at_append schema.edges (new_edges schema create) place edge is) (at_append schema.edges (new_edges schema create) behind other there)

  -- a column of the new table that gives an edge has it
  gives_edge_column : (place : ℕ) (column : Column) (link : RefKind × TableNo) → column.refers ≡ Some link → IsTrue (gives_edge link.0)
      → edge_column place column ≡ Some (record { column = place; name = column.name; kind = link.0; target = link.1 })
  gives_edge_column place column link refers gives = rw (refers, gives) refl

  new_has : (place : ℕ) (column : Column) (link : RefKind × TableNo) → slice_get (new_table schema create).columns place ≡ Some column → column.refers ≡ Some link → IsTrue (gives_edge link.0)
      → HasEdge (with_table schema create).edges (length schema.tables) place
  unfolding with_table new_edges new_edge
  new_has place column link at refers gives =
      let from : EdgeColumn = record { column = place; name = column.name; kind = link.0; target = link.1 } in
      let numbered = numbered_at 0 (new_table schema create).columns place column at in
      let zeroed : 0 + place ≡ place = omega arith in
      let made : (λ (numbered : ℕ × Column). edge_column numbered.0 numbered.1) (0 + place, column) ≡ Some from = ap (λ n. edge_column n column) zeroed ∙ gives_edge_column place column link refers gives in
      let listed = in_filter_map (λ (numbered : ℕ × Column). edge_column numbered.0 numbered.1) (enumerate_from 0 (new_table schema create).columns) (0 + place, column) from (place, numbered) made in
      let there = numbered_at (length schema.edges) (edge_columns schema create) listed.0 from listed.1 in
      let edge = slice_get-in_map (λ (numbered : ℕ × EdgeColumn). new_edge schema create numbered.0 numbered.1) (enumerate_from (length schema.edges) (edge_columns schema create)) listed.0
      (length schema.edges + listed.0, from) there in
      record {
        place = length schema.edges + listed.0;
        edge = new_edge schema create (length schema.edges + listed.0) from;
        edge_is = slice_get-append_after schema.edges (map (λ (numbered : ℕ × EdgeColumn). new_edge schema create numbered.0 numbered.1) (enumerate_from (length schema.edges) (edge_columns schema create)))
            listed.0 (new_edge schema create (length schema.edges + listed.0) from) edge;
        holder_is = refl;
        column_is = refl;
      }

  -- and one of another table has it still
  old_has : (number place : ℕ) → HasEdge schema.edges number place → HasEdge (with_table schema create).edges number place
  unfolding with_table
  old_has number place has = record {
    place = has.place;
    edge = has.edge;
    edge_is = slice_get-append schema.edges (new_edges schema create) has.place has.edge has.edge_is;
    holder_is = has.holder_is;
    column_is = has.column_is;
  }

  each_case : (number place : ℕ) (table : TableDef) (column : Column) (link : RefKind × TableNo)
      → (slice_get schema.tables number ≡ Some table) ⊎ ((behind : ℕ) × (number ≡ length schema.tables + behind) × (slice_get (new_table schema create ∷ []) behind ≡ Some table))
      → slice_get table.columns place ≡ Some column → column.refers ≡ Some link → IsTrue (gives_edge link.0) → HasEdge (with_table schema create).edges number place
  each_case number place table column link (inl old) at refers gives = old_has number place (owner.each number place table column link old at refers gives)
  each_case number place table column link (inr (zero, is, new)) at refers gives =
      let same : new_table schema create ≡ table = cc in
      let n : length schema.tables ≡ number = omega arith in
      subst (λ n. HasEdge (with_table schema create).edges n place) n
      (new_has place column link (subst (λ (t : TableDef). slice_get t.columns place ≡ Some column) (sym same) at) refers gives)
  each_case number place table column link (inr (suc behind, is, new)) at refers gives = let never : ◌≡◌ {A = Option TableDef} None (Some table) = new in cc

  pub each-with_table : ColumnsHaveEdges (with_table schema create).edges (with_table schema create).tables
  unfolding with_table
  each-with_table number place table column link is at refers gives =
      each_case number place table column link (at_append schema.tables (new_table schema create ∷ []) number table is) at refers gives
