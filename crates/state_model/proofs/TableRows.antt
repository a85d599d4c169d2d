-- A table that comes has no rows: each name finds the row that it found, and the same rows are joined.
use Rattle.std.proofs.Common.{◌≡◌, ℕ, zero, suc, ◌+◌, ◌<◌, List, [], ◌∷◌, ◌++◌, length, Bool, true, false, inl, inr, refl, ap, sym, ◌∙◌, arith}
use Rattle.std.specs.Prelude.{◌&&◌, Contains, Option, Some, find, is_some, slice_get}
use Rattle.std.specs.Option.{option_and_then}
use Rattle.std.proofs.Math.Bool.{and-false}
use Rattle.std.proofs.lemmas.List.Elements.{Contains-append_cases, Contains-append_left}
use Rattle.own_base.specs.declared.row_name.RowName.{RowName}
use Rattle.own_base.specs.declared.value.Key.{Key}
use Rattle.own_model.specs.declared.create.CreateTable.{CreateTable}
use Rattle.own_model.specs.declared.schema.Edge.{Edge}
use Rattle.own_model.specs.declared.schema.TableDef.{TableDef}
use Rattle.own_model.specs.Db.{AreRising, Db, IsOrdered, Row}
use Rattle.own_model.specs.Stored.{has_key, row_named, rows_at}
use Rattle.owner_model.specs.Joins.{Joins, holder_of, row_of, value_at}
use Rattle.schema_model.specs.Kinds.{is_upward}
use Rattle.schema_model.specs.NewEdges.{new_edges}
use Rattle.schema_model.specs.NewTable.{new_table}
use Rattle.schema_model.specs.Tables.{is_subject}
use Rattle.schema_model.specs.WithTable.{with_table}
use Rattle.schema_model.proofs.NewEdgeLemmas.{IsNewEdge, lower_up, new_edge-made, upper_down}
use Rattle.schema_model.proofs.OwnerTables.{old_subject}
use Rattle.schema_model.proofs.Places.{IsIn, place-lt}
use Rattle.subject_model.specs.Named.{is_there, named_rows, rows_from, rows_in}
use Rattle.subject_model.specs.Paths.{is_subject_row}
use Rattle.subject_model.proofs.Members.{contains_cases, contains_none}
use Rattle.subject_model.proofs.NamedLemmas.{table-there}
use Rattle.subject_model.proofs.SamePaths.{AreAlike}
use Rattle.state_model.specs.Create.{create}

module _ (key : Key) (last : TableDef) where
  -- the row of a key among those of the table of a number
  abbrev found_in : List TableDef → List (List Row) → ℕ → Option Row
  found_in tables rows number = option_and_then (λ table. find (has_key table key) (rows_at rows number)) (slice_get tables number)

  found-with : (tables : List TableDef) (rows : List (List Row)) (number : ℕ) → AreRising tables rows → found_in (tables ++ last ∷ []) (rows ++ [] ∷ []) number ≡ found_in tables rows number
  found-with [] [] zero rising = refl
  found-with [] [] (suc number) rising = refl
  found-with [] (one ∷ rows) number rising = absurd rising
  found-with (first ∷ tables) [] number rising = absurd rising
  found-with (first ∷ tables) (one ∷ rows) zero rising = refl
  found-with (first ∷ tables) (one ∷ rows) (suc number) rising = found-with tables rows number rising.1

named-with : (number : ℕ) (last : TableDef) (tables : List TableDef) (rows : List (List Row)) → AreRising tables rows
    → rows_from number (tables ++ last ∷ []) (rows ++ [] ∷ []) ≡ rows_from number tables rows
unfolding rows_from
named-with number last [] [] rising = refl
named-with number last [] (one ∷ rows) rising = absurd rising
named-with number last (first ∷ tables) [] rising = absurd rising
named-with number last (first ∷ tables) (one ∷ rows) rising = ap (λ rest. rows_in number first one ++ rest) (named-with (number + 1) last tables rows rising.1)

-- the rows of the table of a number
pub rows_at-with : (rows : List (List Row)) (number : ℕ) → rows_at (rows ++ [] ∷ []) number ≡ rows_at rows number
rows_at-with [] zero = refl
rows_at-with [] (suc number) = refl
rows_at-with (one ∷ rows) zero = refl
rows_at-with (one ∷ rows) (suc number) = rows_at-with rows number

-- what a list contains stands at a place
pub in_contained : {X : Type 0} (xs : List X) (x : X) → Contains xs x → IsIn xs x
in_contained [] x among = absurd (contains_none x among)
in_contained (first ∷ xs) x among = elim (contains_cases first xs x among) [
  | inl here ↦ (0, ap Some here)
  | inr later ↦ let at = in_contained xs x later in (suc at.0, at.1)
]

-- a row that is there is of one of the tables
pub there-below : (db : Db) (name : RowName) → is_there db name ≡ true → name.table.0 < length db.schema.tables
there-below db name there = let table = table-there db name there in place-lt db.schema.tables name.table.0 table.0 table.1

module _ (db : Db) (table : CreateTable) (ordered : IsOrdered db) where
  -- each name finds the row that it found
  pub row_of-create : (name : RowName) → row_of (create db table) name ≡ row_of db name
  unfolding create with_table row_named
  row_of-create name = found-with name.key (new_table db.schema table) db.schema.tables db.rows name.table.0 ordered.rising

  pub is_there-create : (name : RowName) → is_there (create db table) name ≡ is_there db name
  is_there-create name = ap is_some (row_of-create name)

  pub value_at-create : (name : RowName) (column : ℕ) → value_at (create db table) name column ≡ value_at db name column
  value_at-create name column = ap (λ found. option_and_then (λ row. slice_get row column) found) (row_of-create name)

  -- the rows with their names are the same
  pub named_rows-create : named_rows (create db table) ≡ named_rows db
  unfolding create with_table
  named_rows-create = named-with 0 (new_table db.schema table) db.schema.tables db.rows ordered.rising

  subject_case : (name : RowName) (there : Bool) → is_there db name ≡ there → is_subject_row (create db table) name ≡ is_subject_row db name
  unfolding is_subject_row create
  subject_case name true there =
      λ i. (old_subject db.schema table name.table.0 (there-below db name there) i) && (is_there-create name i)
  subject_case name false none =
      ap (λ there. is_subject (with_table db.schema table) name.table.0 && there) (is_there-create name ∙ none)
      ∙ and-false (is_subject (with_table db.schema table) name.table.0)
      ∙ sym (ap (λ there. is_subject db.schema name.table.0 && there) none ∙ and-false (is_subject db.schema name.table.0))

  -- and so are the data subjects
  pub subject_row-create : (name : RowName) → is_subject_row (create db table) name ≡ is_subject_row db name
  subject_row-create name = subject_case name _ refl

  -- what an edge joined it joins
  pub joins-create : (lower : RowName) (edge : Edge) (upper : RowName) → Joins db lower edge upper → Joins (create db table) lower edge upper
  unfolding create with_table
  joins-create lower edge upper is = record {
    among = Contains-append_left db.schema.edges (new_edges db.schema table) edge is.among;
    of_lower = is.of_lower;
    of_upper = is.of_upper;
    lower_there = is_there-create lower ∙ is.lower_there;
    upper_there = is_there-create upper ∙ is.upper_there;
    names = value_at-create (holder_of edge lower upper) edge.column.0 ∙ is.names;
  }

  -- an edge of the new table joins no rows: it has none
  pub new_joins_none : (lower : RowName) (edge : Edge) (upper : RowName) → Contains (new_edges db.schema table) edge → lower.table ≡ edge.lower → upper.table ≡ edge.upper
      → is_there db lower ≡ true → is_there db upper ≡ true → ⊥
  new_joins_none lower edge upper among of_lower of_upper lower_there upper_there =
      let by = new_edge-made db.schema table edge (in_contained (new_edges db.schema table) edge among) in
      either by (is_upward by.from.kind) refl
    where
      either : (by : IsNewEdge db.schema table edge) (up : Bool) → is_upward by.from.kind ≡ up → ⊥
      either by true up =
          let at = ap (λ table. table.0) (of_lower ∙ lower_up db.schema table edge by up) in
          let below = there-below db lower lower_there in
          absurd (omega arith)
      either by false down =
          let at = ap (λ table. table.0) (of_upper ∙ upper_down db.schema table edge by down) in
          let below = there-below db upper upper_there in
          absurd (omega arith)

  -- so what an edge joins it joined
  pub joined-create : (lower : RowName) (edge : Edge) (upper : RowName) → Joins (create db table) lower edge upper → Joins db lower edge upper
  unfolding create with_table
  joined-create lower edge upper is =
      let lower_there = sym (is_there-create lower) ∙ is.lower_there in
      let upper_there = sym (is_there-create upper) ∙ is.upper_there in
      elim (Contains-append_cases db.schema.edges (new_edges db.schema table) edge is.among) [
        | inl old ↦ record {
          among = old;
          of_lower = is.of_lower;
          of_upper = is.of_upper;
          lower_there = lower_there;
          upper_there = upper_there;
          names = sym (value_at-create (holder_of edge lower upper) edge.column.0) ∙ is.names;
        }
        | inr new ↦ absurd (new_joins_none lower edge upper new is.of_lower is.of_upper lower_there upper_there)
      ]

  -- the two databases have the same paths
  pub alike-create : AreAlike db (create db table)
  alike-create = record { named = named_rows-create; subject = subject_row-create; joins = joins-create; joined = joined-create }
