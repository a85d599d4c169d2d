-- The edges that a CREATE TABLE adds, each of a column of the new table.
use Rattle.std.proofs.Common.{◌≡◌, ℕ, zero, suc, ◌+◌, ◌<◌, ◌≤◌, List, [], ◌∷◌, length, Bool, true, false, cond, refl, ap, sym, ◌∙◌, arith}
use Rattle.std.specs.Prelude.{Option, Some, None, slice_get, filter_map}
use Rattle.std.specs.List.{cons_option, enumerate_from}
use Rattle.own_base.specs.declared.number.TableNo.{TableNo}
use Rattle.own_model.specs.declared.create.CreateTable.{CreateTable}
use Rattle.own_model.specs.declared.schema.Column.{Column}
use Rattle.own_model.specs.declared.schema.Edge.{Edge}
use Rattle.own_model.specs.declared.schema.RefKind.{RefKind}
use Rattle.own_model.specs.declared.schema.Schema.{Schema}
use Rattle.schema_model.specs.Kinds.{gives_edge, gives_ownership, is_upward}
use Rattle.schema_model.specs.NewEdges.{EdgeColumn, edge_column, edge_columns, new_edge, new_edges}
use Rattle.schema_model.specs.NewTable.{new_table}
use Rattle.schema_model.proofs.Places.{IsIn, of_filter_map, slice_get-enumerate_from, slice_get-of_map}

-- what a column is made of that gives an edge
pub record GivesEdge (number : ℕ) (column : Column) (from : EdgeColumn) : Type 0 where
  pub number_is : from.column ≡ number
  pub name : from.name ≡ column.name
  pub refers : column.refers ≡ Some (from.kind, from.target)
  pub gives : gives_edge from.kind ≡ true

gives_step : (number : ℕ) (column : Column) (from : EdgeColumn) (link : RefKind × TableNo) → column.refers ≡ Some link → (b : Bool) → gives_edge link.0 ≡ b
    → cond b (Some (record { column = number; name = column.name; kind = link.0; target = link.1 })) None ≡ Some from → GivesEdge number column from
gives_step number column from link refers true gives is =
    let made : EdgeColumn = record { column = number; name = column.name; kind = link.0; target = link.1 } in
    let same : made ≡ from = cc in
    record {
      number_is = ap (λ from. from.column) (sym same);
      name = ap (λ from. from.name) (sym same);
      refers = refers ∙ ap (λ from. Some (from.kind, from.target)) same;
      gives = ap (λ from. gives_edge from.kind) (sym same) ∙ gives;
    }
gives_step number column from link refers false gives is = let never : ◌≡◌ {A = Option EdgeColumn} None (Some from) = is in let bad : ⊥ = cc in absurd bad

gives_case : (number : ℕ) (column : Column) (from : EdgeColumn) (refers : Option (RefKind × TableNo)) → column.refers ≡ refers
    → edge_column number column ≡ Some from → GivesEdge number column from
gives_case number column from None refers is = let never : ◌≡◌ {A = Option EdgeColumn} None (Some from) = rw refers at is in let bad : ⊥ = cc in absurd bad
gives_case number column from (Some link) refers is = gives_step number column from link refers (gives_edge link.0) refl (rw refers at is)

gives : (number : ℕ) (column : Column) (from : EdgeColumn) → edge_column number column ≡ Some from → GivesEdge number column from
gives number column from is = gives_case number column from column.refers refl is

-- what a new edge is made of: the column that gives it, at a place among those that do
pub record IsNewEdge (schema : Schema) (create : CreateTable) (edge : Edge) : Type 0 where
  pub place : ℕ
  pub from : EdgeColumn
  pub from_is : slice_get (edge_columns schema create) place ≡ Some from
  pub edge_is : edge ≡ new_edge schema create (length schema.edges + place) from
  pub column : Column
  pub column_is : slice_get (new_table schema create).columns from.column ≡ Some column
  pub gives : GivesEdge from.column column from

-- each new edge is made so
pub new_edge-made : (schema : Schema) (create : CreateTable) (edge : Edge) → IsIn (new_edges schema create) edge → IsNewEdge schema create edge
unfolding new_edges
new_edge-made schema create edge (at, is) =
    let numbered = slice_get-of_map (λ numbered. new_edge schema create numbered.0 numbered.1) (enumerate_from (length schema.edges) (edge_columns schema create)) at edge is in
    let from = slice_get-enumerate_from (length schema.edges) (edge_columns schema create) at numbered.0 numbered.1 in
    let column = of_filter_map (λ numbered. edge_column numbered.0 numbered.1) (enumerate_from 0 (new_table schema create).columns) numbered.0.1 (at, from.1) in
    let own = slice_get-enumerate_from 0 (new_table schema create).columns column.1.0 column.0 column.1.1 in
    let given = gives column.0.0 column.0.1 numbered.0.1 column.2 in
    let number : numbered.0.1.column ≡ column.1.0 = (let n = own.0 in let m = given.number_is in omega arith) in
    record {
      place = at;
      from = numbered.0.1;
      from_is = from.1;
      edge_is = sym numbered.2 ∙ ap (λ n. new_edge schema create n numbered.0.1) from.0;
      column = column.0.1;
      column_is = rw number own.1;
      gives = record { number_is = refl; name = given.name; refers = given.refers; gives = given.gives };
    }

-- by the column at its own place
pub new_edge-place : (schema : Schema) (create : CreateTable) (edge : Edge) (at : ℕ) (is : slice_get (new_edges schema create) at ≡ Some edge) → (new_edge-made schema create edge (at, is)).place ≡ at
unfolding new_edge-made
new_edge-place schema create edge at is = refl

-- the columns that give edges, from a number on
columns_from : ℕ → List Column → List EdgeColumn
columns_from number columns = filter_map (λ numbered. edge_column numbered.0 numbered.1) (enumerate_from number columns)

-- their numbers are no less
least : (number : ℕ) (columns : List Column) (from : EdgeColumn) → IsIn (columns_from number columns) from → number ≤ from.column
unfolding columns_from
least number columns from among =
    let made = of_filter_map (λ numbered. edge_column numbered.0 numbered.1) (enumerate_from number columns) from among in
    let own = slice_get-enumerate_from number columns made.1.0 made.0 made.1.1 in
    let given = gives made.0.0 made.0.1 from made.2 in
    let n = own.0 in let m = given.number_is in omega arith

one_step : (number : ℕ) (column : Column) (columns : List Column) (one other : ℕ) (from also : EdgeColumn) → (o : Option EdgeColumn) → edge_column number column ≡ o
    → ((one other : ℕ) → slice_get (columns_from (number + 1) columns) one ≡ Some from → slice_get (columns_from (number + 1) columns) other ≡ Some also → one ≡ other)
    → from.column ≡ also.column
    → slice_get (cons_option o (columns_from (number + 1) columns)) one ≡ Some from → slice_get (cons_option o (columns_from (number + 1) columns)) other ≡ Some also → one ≡ other
one_step number column columns one other from also None is more equal at there = more one other at there
one_step number column columns zero zero from also (Some first) is more equal at there = refl
one_step number column columns zero (suc other) from also (Some first) is more equal at there =
    let same : first ≡ from = cc in
    let own = (gives number column first is).number_is in
    let later = least (number + 1) columns also (other, there) in
    let n : first.column ≡ from.column = ap (λ from. from.column) same in absurd (omega arith)
one_step number column columns (suc one) zero from also (Some first) is more equal at there =
    let same : first ≡ also = cc in
    let own = (gives number column first is).number_is in
    let later = least (number + 1) columns from (one, at) in
    let n : first.column ≡ also.column = ap (λ from. from.column) same in absurd (omega arith)
one_step number column columns (suc one) (suc other) from also (Some first) is more equal at there = ap suc (more one other at there)

one_from : (number : ℕ) (columns : List Column) (from also : EdgeColumn) → from.column ≡ also.column → (one other : ℕ)
    → slice_get (columns_from number columns) one ≡ Some from → slice_get (columns_from number columns) other ≡ Some also → one ≡ other
unfolding columns_from
one_from number [] from also equal one other at there = cc
one_from number (column ∷ columns) from also equal one other at there =
    one_step number column columns one other from also (edge_column number column) refl (one_from (number + 1) columns from also equal) equal at there

-- those that stand later have greater ones
rising_step : (number : ℕ) (column : Column) (columns : List Column) (one other : ℕ) (from also : EdgeColumn) → (o : Option EdgeColumn) → edge_column number column ≡ o
    → ((one other : ℕ) → one < other → slice_get (columns_from (number + 1) columns) one ≡ Some from → slice_get (columns_from (number + 1) columns) other ≡ Some also → from.column < also.column)
    → one < other
    → slice_get (cons_option o (columns_from (number + 1) columns)) one ≡ Some from → slice_get (cons_option o (columns_from (number + 1) columns)) other ≡ Some also → from.column < also.column
rising_step number column columns one other from also None is more before at there = more one other before at there
rising_step number column columns one zero from also (Some first) is more before at there = absurd (omega arith)
rising_step number column columns zero (suc other) from also (Some first) is more before at there =
    let same : first ≡ from = cc in
    let own = (gives number column first is).number_is in
    let later = least (number + 1) columns also (other, there) in
    let n : first.column ≡ from.column = ap (λ from. from.column) same in omega arith
rising_step number column columns (suc one) (suc other) from also (Some first) is more before at there = more one other (omega arith) at there

rising_from : (number : ℕ) (columns : List Column) (from also : EdgeColumn) (one other : ℕ) → one < other
    → slice_get (columns_from number columns) one ≡ Some from → slice_get (columns_from number columns) other ≡ Some also → from.column < also.column
unfolding columns_from
rising_from number [] from also one other before at there = cc
rising_from number (column ∷ columns) from also one other before at there =
    rising_step number column columns one other from also (edge_column number column) refl (rising_from (number + 1) columns from also) before at there

pub rising_columns : (schema : Schema) (create : CreateTable) (from also : EdgeColumn) (one other : ℕ) → one < other
    → slice_get (edge_columns schema create) one ≡ Some from → slice_get (edge_columns schema create) other ≡ Some also → from.column < also.column
unfolding columns_from
rising_columns schema create = rising_from 0 (new_table schema create).columns

-- a column gives one edge
pub one_new_edge : (schema : Schema) (create : CreateTable) (one other : Edge) (by : IsNewEdge schema create one) (too : IsNewEdge schema create other)
    → by.from.column ≡ too.from.column → one ≡ other
unfolding columns_from
one_new_edge schema create one other by too equal =
    let place = one_from 0 (new_table schema create).columns by.from too.from equal by.place too.place by.from_is too.from_is in
    let there : slice_get (edge_columns schema create) by.place ≡ Some too.from = rw place too.from_is in
    let own = by.from_is in
    let from : by.from ≡ too.from = cc in
    let one_is = by.edge_is in
    let other_is = too.edge_is in
    one_is ∙ ap (λ place. new_edge schema create (length schema.edges + place) by.from) place ∙ ap (new_edge schema create (length schema.edges + too.place)) from ∙ sym other_is

module _ (schema : Schema) (create : CreateTable) (edge : Edge) (by : IsNewEdge schema create edge) where
  -- the new table holds its column
  pub new_holder : edge.holder ≡ record { 0 = length schema.tables }
  unfolding new_edge
  new_holder = ap (λ edge. edge.holder) by.edge_is

  -- which has the number that it had among the table's
  pub new_column_no : edge.column.0 ≡ by.from.column
  unfolding new_edge
  new_column_no = ap (λ edge. edge.column.0) by.edge_is

  -- whether it is one of owners its kind says
  pub new_owner : edge.owner ≡ gives_ownership by.from.kind
  unfolding new_edge
  new_owner = ap (λ edge. edge.owner) by.edge_is

  -- an edge up from the new table has it as the lower one
  pub lower_up : is_upward by.from.kind ≡ true → edge.lower ≡ record { 0 = length schema.tables }
  unfolding new_edge
  lower_up up = ap (λ edge. edge.lower) by.edge_is ∙ rw up refl

  -- and the table that its column names as the upper one
  pub upper_up : is_upward by.from.kind ≡ true → edge.upper ≡ by.from.target
  unfolding new_edge
  upper_up up = ap (λ edge. edge.upper) by.edge_is ∙ rw up refl

  -- an edge up to the new table has the one that its column names as the lower one
  pub lower_down : is_upward by.from.kind ≡ false → edge.lower ≡ by.from.target
  unfolding new_edge
  lower_down down = ap (λ edge. edge.lower) by.edge_is ∙ rw down refl

  -- and the new one as the upper one
  pub upper_down : is_upward by.from.kind ≡ false → edge.upper ≡ record { 0 = length schema.tables }
  unfolding new_edge
  upper_down down = ap (λ edge. edge.upper) by.edge_is ∙ rw down refl
