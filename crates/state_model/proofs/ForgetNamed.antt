-- The named rows that a FORGET leaves are those that stay, with what is left of each.
use Rattle.std.proofs.Common.{◌≡◌, ℕ, suc, ◌+◌, List, [], ◌∷◌, map, Bool, true, false, cond, refl, ap, sym, ◌∙◌, subst, arith}
use Rattle.std.specs.Prelude.{Some, filter, slice_get}
use Rattle.std.specs.Option.{option_map_or}
use Rattle.std.proofs.lemmas.List.{map-append}
use Rattle.std.proofs.lemmas.List.Elements.{filter-append}
use Rattle.own_base.specs.declared.row_name.RowName.{RowName}
use Rattle.own_base.specs.declared.value.Key.{Key}
use Rattle.own_model.specs.declared.schema.TableDef.{TableDef}
use Rattle.own_model.specs.Db.{Db, Row}
use Rattle.schema_model.specs.OwnerSchema.{IsOwnerSchema}
use Rattle.subject_model.specs.Forget.{forget, left_from, left_in, left_of}
use Rattle.subject_model.specs.Named.{NamedRow, name_of, named_rows, rows_from, rows_in}
use Rattle.subject_model.specs.Stays.{stays}
use Rattle.subject_model.proofs.ForgetKeys.{key_left}
use Rattle.subject_model.proofs.ForgetRows.{named_in, row_left}

-- what is left of a row, by its name
abbrev pub values_left : Db → RowName → NamedRow → Row
values_left db subject named = option_map_or (λ table. left_of db subject table named) (slice_get db.schema.tables named.name.table.0) named.row

abbrev pub named_left : Db → RowName → NamedRow → NamedRow
named_left db subject named = record { name = named.name; row = values_left db subject named }

-- whether a row stays
abbrev pub stays_named : Db → RowName → NamedRow → Bool
stays_named db subject named = stays db subject named.name

module _ (db : Db) (subject : RowName) (owner : IsOwnerSchema db.schema) where
  -- the images of those that stay
  abbrev left_named : List NamedRow → List NamedRow
  left_named named = map (named_left db subject) (filter (stays_named db subject) named)

  module _ (number : ℕ) (table : TableDef) (is : slice_get db.schema.tables number ≡ Some table) where
    -- one row
    row_named : (row : Row) → named_in number table (row_left db subject number table row) ≡ named_left db subject (named_in number table row)
    row_named row =
        let named : Key → Row → NamedRow = λ key values. record { name = record { table = record { 0 = number }; key = key }; row = values } in
        rw is (ap (λ key. named key (row_left db subject number table row)) (key_left db subject table (named_in number table row) owner is))

    -- those of a table
    table_named : (rows : List Row) → rows_in number table (left_in db subject number table rows) ≡ left_named (rows_in number table rows)
    table_named [] = refl
    table_named (row ∷ rows) = by (stays db subject (name_of number table row)) (table_named rows)
      where
        kept : List NamedRow
        kept = filter (stays_named db subject) (rows_in number table rows)

        by : (b : Bool) → rows_in number table (left_in db subject number table rows) ≡ map (named_left db subject) kept
            → rows_in number table (map (left_of db subject table) (cond b (named_in number table row ∷ kept) kept)) ≡ map (named_left db subject) (cond b (named_in number table row ∷ kept) kept)
        by true more = rw more (ap (λ first. first ∷ map (named_left db subject) kept) (row_named row))
        by false more = more

  -- those of tables from a number on
  from_named : (number : ℕ) (tables : List TableDef) (rows : List (List Row)) → ((place : ℕ) (table : TableDef) → slice_get tables place ≡ Some table → slice_get db.schema.tables (number + place) ≡ Some table)
      → rows_from number tables (left_from db subject number tables rows) ≡ left_named (rows_from number tables rows)
  unfolding left_from rows_from
  from_named number [] rows same = refl
  from_named number (table ∷ tables) [] same = refl
  from_named number (table ∷ tables) (rows ∷ rest) same =
      let n : number + 0 ≡ number = omega arith in
      let own : slice_get db.schema.tables number ≡ Some table = subst (λ n. slice_get db.schema.tables n ≡ Some table) n (same 0 table refl) in
      let here = rows_in number table rows in
      let more = rows_from (number + 1) tables rest in
      rw (table_named number table own rows, from_named (number + 1) tables rest later)
      (sym (ap (map (named_left db subject)) (filter-append (stays_named db subject) here more)
      ∙ map-append (named_left db subject) (filter (stays_named db subject) here) (filter (stays_named db subject) more)))
    where
      later : (place : ℕ) (found : TableDef) → slice_get tables place ≡ Some found → slice_get db.schema.tables (number + 1 + place) ≡ Some found
      later place found is = let n : number + suc place ≡ number + 1 + place = omega arith in subst (λ n. slice_get db.schema.tables n ≡ Some found) n (same (suc place) found is)

  -- all
  pub named_rows-forget : named_rows (forget db subject) ≡ left_named (named_rows db)
  unfolding forget
  named_rows-forget = from_named 0 db.schema.tables db.rows (λ place table is. let n : place ≡ 0 + place = omega arith in subst (λ n. slice_get db.schema.tables n ≡ Some table) n is)

  names_step : (named : List NamedRow) → map (λ n. n.name) (left_named named) ≡ filter (stays db subject) (map (λ n. n.name) named)
  names_step [] = refl
  names_step (first ∷ named) = by (stays db subject first.name) (names_step named)
    where
      kept : List NamedRow
      kept = filter (stays_named db subject) named

      by : (b : Bool) → map (λ n. n.name) (map (named_left db subject) kept) ≡ filter (stays db subject) (map (λ n. n.name) named)
          → map (λ n. n.name) (map (named_left db subject) (cond b (first ∷ kept) kept))
          ≡ cond b (first.name ∷ filter (stays db subject) (map (λ n. n.name) named)) (filter (stays db subject) (map (λ n. n.name) named))
      by true more = ap (λ rest. first.name ∷ rest) more
      by false more = more

  -- their names are those that stay
  pub names-forget : map (λ n. n.name) (named_rows (forget db subject)) ≡ filter (stays db subject) (map (λ n. n.name) (named_rows db))
  names-forget = rw named_rows-forget (names_step (named_rows db))
