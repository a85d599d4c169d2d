-- What a subject is shown of rows, one after another and table after table.
use Rattle.std.proofs.Common.{◌≡◌, ℕ, ◌+◌, ◌≤◌, List, [], ◌∷◌, ◌++◌, Bool, true, false, drop, length, get_or, take, map, inl, inr, refl, ap, sym, ◌∙◌, append_assoc}
use Rattle.std.specs.Prelude.{Some, None, Option, filter, slice_get}
use Rattle.std.specs.List.{enumerate_from}
use Rattle.std.proofs.lemmas.List.{append-nil, drop_all, map-append, take_more}
use Rattle.std.proofs.lemmas.List.Elements.{filter-append}
use Rattle.std.proofs.lemmas.Option.{get_or_from_slice_get, slice_get_cases}
use Rattle.own_base.specs.declared.number.EdgeNo.{EdgeNo}
use Rattle.own_base.specs.declared.row_name.RowName.{RowName}
use Rattle.own_base.specs.declared.row_name.Subject.{Subject}
use Rattle.own_model.specs.declared.reply.Cell.{Cell}
use Rattle.own_model.specs.declared.reply.GotRow.{GotRow}
use Rattle.own_model.specs.declared.schema.Edge.{Edge}
use Rattle.own_model.specs.declared.schema.TableDef.{TableDef}
use Rattle.own_model.specs.Db.{Db, IsOrdered, Row}
use Rattle.own_model.specs.Stored.{rows_at}
use Rattle.owner_sets.specs.ByEdges.{AreEdgesOf, EdgeLists, edges_at}
use Rattle.owner_sets.specs.Leading.{is_among, is_named}
use Rattle.owner_sets.specs.Sets.{AreSetsOf, Sets, set_at}
use Rattle.owner_sets.proofs.LeadingLemmas.{among-reaches}
use Rattle.schema_model.specs.OwnerSchema.{IsOwnerSchema}
use Rattle.subject_model.specs.Get.{get, got_row, shown_cell, table_name}
use Rattle.subject_model.specs.Named.{NamedRow, is_name, name_of, named_rows, rows_from, rows_in}
use Rattle.subject_model.specs.Owners.{by, reach, reaches}
use Rattle.subject_access.specs.Shown.{shown_of}
use Rattle.subject_model.proofs.TableByTable.{from-table}

module _ (db : Db) (subject : RowName) where
  -- of more rows the rest is shown behind
  pub shown-append : (rows more : List NamedRow) → shown_of db subject (rows ++ more) ≡ shown_of db subject rows ++ shown_of db subject more
  unfolding shown_of
  shown-append rows more =
      let test : NamedRow → Bool = λ named. reaches db subject named.name in
      ap (map (got_row db subject)) (filter-append test rows more) ∙ map-append (got_row db subject) (filter test rows) (filter test more)

  -- a row that the subject reaches is shown
  pub shown-reached : (named : NamedRow) → reaches db subject named.name ≡ true → shown_of db subject (named ∷ []) ≡ got_row db subject named ∷ []
  unfolding shown_of
  shown-reached named is = rw is refl

  -- and no other
  pub shown-other : (named : NamedRow) → reaches db subject named.name ≡ false → shown_of db subject (named ∷ []) ≡ []
  unfolding shown_of
  shown-other named is = rw is refl

  pub shown-none : shown_of db subject [] ≡ []
  unfolding shown_of
  shown-none = refl

  -- all that is shown is what is shown of all rows
  pub shown-all : shown_of db subject (named_rows db) ≡ get db subject
  unfolding shown_of get
  shown-all = refl

module _ (db : Db) (table : ℕ) (place : ℕ) (definition : TableDef) (row : Row) (there : slice_get db.schema.tables table ≡ Some definition) (here : slice_get (rows_at db.rows table) place ≡ Some row) where
  -- whether the row at a place is the subject's own
  pub named-own : (subject : RowName) → is_named db.schema db.rows table place subject ≡ is_name (name_of table definition row) subject
  named-own subject = rw (there, here) refl

  -- whether the subject reaches it
  pub among-reached : (subject : Subject) (sets : Sets) → IsOrdered db → IsOwnerSchema db.schema → AreSetsOf db (reach db) sets
      → is_among subject (set_at sets table place) ≡ reaches db subject.0 (name_of table definition row)
  among-reached subject sets ordered owner are =
      ap (is_among subject) ((are.each table).at place definition row there here) ∙ among-reaches db (name_of table definition row) subject ordered owner

  -- by which edges
  pub edges-by : (subject : RowName) (edges : EdgeLists) → AreEdgesOf db subject edges → edges_at edges table place ≡ by db subject (name_of table definition row)
  edges-by subject edges are = (are.each table).at place definition row there here

  -- and what its table is called
  pub table-name : table_name db.schema table ≡ definition.name
  table-name = rw there refl

-- a table's first rows, with one more
pub rows_in-more : (number : ℕ) (table : TableDef) (rows : List Row) (at : ℕ) (row : Row) → slice_get rows at ≡ Some row
    → rows_in number table (take (at + 1) rows) ≡ rows_in number table (take at rows) ++ record { name = name_of number table row; row = row } ∷ []
rows_in-more number table rows at row is =
    let f : Row → NamedRow = λ row. record { name = name_of number table row; row = row } in
    elim (slice_get_cases rows at).1 [
      | inl (own, within, there, here) ↦
          ap (map f) (take_more rows at row within) ∙ (map-append f (take at rows) (get_or rows at row ∷ []) ∙ ap (λ r. map f (take at rows) ++ f r ∷ []) (get_or_from_slice_get rows at row row is))
      | inr (past, none) ↦ let never : ◌≡◌ {A = Option Row} None (Some row) = sym none ∙ is in cc
    ]

module _ (db : Db) (table : ℕ) (place : ℕ) (definition : TableDef) (row : Row) (there : slice_get db.schema.tables table ≡ Some definition) (here : slice_get (rows_at db.rows table) place ≡ Some row) where
  -- what is made of the row's columns, of whether it is the subject's own and of the edges by which the subject reaches it
  pub got-made : (subject : RowName) (lists : EdgeLists) (got : GotRow) (edges : List Edge) (own : Bool) (numbers : List EdgeNo) → AreEdgesOf db subject lists
      → edges ≡ db.schema.edges → own ≡ is_named db.schema db.rows table place subject → numbers ≡ edges_at lists table place
      → got.table ≡ definition.name → got.cells ≡ map (shown_cell edges own numbers) (enumerate_from 0 row) → got ≡ got_row db subject (record { name = name_of table definition row; row = row })
  got-made subject lists got edges own numbers are is_edges is_own is_by of_table of_cells =
      let name : RowName = name_of table definition row in
      let cells : List Edge → Bool → List EdgeNo → List Cell = λ e o b. map (shown_cell e o b) (enumerate_from 0 row) in
      let same : cells edges own numbers ≡ cells db.schema.edges (is_name name subject) (by db subject name) =
      ap (λ e. cells e own numbers) is_edges
      ∙ (ap (λ o. cells db.schema.edges o numbers) (is_own ∙ named-own db table place definition row there here subject)
      ∙ ap (λ b. cells db.schema.edges (is_name name subject) b) (is_by ∙ edges-by db table place definition row there here subject lists are)) in
      let of : GotRow = got in
      ap (λ (n : List ℕ). record { table = n; cells = of.cells }) (of_table ∙ sym (table-name db table place definition row there here))
      ∙ ap (λ (c : List Cell). record { table = table_name db.schema table; cells = c }) (of_cells ∙ same)

module _ (db : Db) (subject : RowName) where
  pub shown-start : (number : ℕ) (table : TableDef) (shown : List GotRow) → shown ≡ shown ++ shown_of db subject (rows_in number table [])
  shown-start number table shown = sym (ap (λ more. shown ++ more) (shown-none db subject) ∙ append-nil shown)

  -- one row more of a table
  pub shown-more : (number : ℕ) (table : TableDef) (rows : List Row) (at : ℕ) (row : Row) (old mid new : List GotRow) → slice_get rows at ≡ Some row
      → mid ≡ old ++ shown_of db subject (rows_in number table (take at rows)) → new ≡ mid ++ shown_of db subject (record { name = name_of number table row; row = row } ∷ [])
      → new ≡ old ++ shown_of db subject (rows_in number table (take (at + 1) rows))
  shown-more number table rows at row old mid new is before step =
      let first = rows_in number table (take at rows) in
      let next : List NamedRow = record { name = name_of number table row; row = row } ∷ [] in
      step
      ∙ (ap (λ rows. rows ++ shown_of db subject next) before
      ∙ (append_assoc old (shown_of db subject first) (shown_of db subject next)
      ∙ ap (λ rows. old ++ rows) (sym (ap (shown_of db subject) (rows_in-more number table rows at row is) ∙ shown-append db subject first next))))

  -- the tables before a number are shown: with what is left they give what all do
  pub record ShownTo (number : ℕ) (shown : List GotRow) : Type 0 where
    pub rest : shown ++ shown_of db subject (rows_from number (drop number db.schema.tables) (drop number db.rows)) ≡ get db subject

  pub shown_to-start : ShownTo 0 []
  shown_to-start = record { rest = shown-all db subject }

  pub shown_to-more : (number : ℕ) (table : TableDef) (shown more : List GotRow) → ShownTo number shown → slice_get db.schema.tables number ≡ Some table
      → more ≡ shown ++ shown_of db subject (rows_in number table (rows_at db.rows number)) → ShownTo (number + 1) more
  shown_to-more number table shown more before is step =
      let own = rows_in number table (rows_at db.rows number) in
      let left = rows_from (number + 1) (drop (number + 1) db.schema.tables) (drop (number + 1) db.rows) in
      record {
        rest =
            ap (λ rows. rows ++ shown_of db subject left) step
            ∙ (append_assoc shown (shown_of db subject own) (shown_of db subject left)
            ∙ (ap (λ rows. shown ++ rows) (sym (ap (shown_of db subject) (from-table number table db.schema.tables db.rows is) ∙ shown-append db subject own left))
            ∙ before.rest));
      }

  pub shown_to-all : (number : ℕ) (shown : List GotRow) → ShownTo number shown → length db.schema.tables ≤ number → shown ≡ get db subject
  unfolding rows_from
  shown_to-all number shown before past =
      let none : shown_of db subject (rows_from number (drop number db.schema.tables) (drop number db.rows)) ≡ [] =
      ap (λ left. shown_of db subject (rows_from number left (drop number db.rows))) (drop_all number db.schema.tables past) ∙ shown-none db subject in
      sym (append-nil shown) ∙ (ap (λ rows. shown ++ rows) (sym none) ∙ before.rest)
