-- What becomes of the rows of a database is told by their names.
use Rattle.std.proofs.Common.{◌≡◌, ℕ, suc, ◌+◌, List, [], ◌∷◌, ◌++◌, map, Bool, cond, refl, ap, sym, ◌∙◌, filter_map, arith}
use Rattle.std.specs.Prelude.{Option, Some, None, IfSome, filter, is_some, slice_get, unwrap_or}
use Rattle.std.specs.List.{cons_option}
use Rattle.std.specs.Option.{option_and_then}
use Rattle.own_base.specs.declared.change.Change.{Change}
use Rattle.own_base.specs.declared.row_name.RowName.{RowName}
use Rattle.own_model.specs.declared.schema.TableDef.{TableDef}
use Rattle.own_model.specs.Db.{Db, IsOrdered, Row}
use Rattle.owner_model.specs.Joins.{row_of}
use Rattle.page_model.specs.Rising.{IsRising}
use Rattle.page_model.proofs.SameFound.{same_found}
use Rattle.subject_model.specs.NameOrder.{name_cmp}
use Rattle.subject_model.specs.Named.{NamedRow, named_rows, rows_from, rows_in}
use Rattle.subject_model.proofs.RisingNames.{name_order}
use Rattle.shelf_model.proofs.KeptRows.{found_made, made_rise}
use Rattle.subject_erase.specs.Erasures.{erased, erased_from, erasures, removal}
use Rattle.subject_erase.proofs.ErasureLemmas.{erased-has}
use Rattle.shelf_erase.specs.ChangeAt.{as_named, change_at}
use Rattle.shelf_erase.specs.Told.{AreTold, told}

filter_map-append : {X Y : Type 0} (make : X → Option Y) (xs ys : List X) → filter_map make (xs ++ ys) ≡ filter_map make xs ++ filter_map make ys
filter_map-append make [] ys = refl
filter_map-append {X} {Y} make (x ∷ xs) ys = by (make x) (filter_map-append make xs ys)
  where
    by : (o : Option Y) → filter_map make (xs ++ ys) ≡ filter_map make xs ++ filter_map make ys → cons_option o (filter_map make (xs ++ ys)) ≡ cons_option o (filter_map make xs) ++ filter_map make ys
    by None more = more
    by (Some y) more = ap (λ rest. y ∷ rest) more

-- what is made, as images of those of which anything is made
made_kept : {X Y : Type 0} (make : X → Option Y) (else_is : X → Y) (xs : List X) → filter_map make xs ≡ map (λ x. unwrap_or (make x) (else_is x)) (filter (λ x. is_some (make x)) xs)
made_kept make else_is [] = refl
made_kept {X} {Y} make else_is (x ∷ xs) = by (make x) refl (made_kept make else_is xs)
  where
    by : (o : Option Y) → make x ≡ o → filter_map make xs ≡ map (λ z. unwrap_or (make z) (else_is z)) (filter (λ z. is_some (make z)) xs)
        → cons_option o (filter_map make xs) ≡ map (λ z. unwrap_or (make z) (else_is z)) (cond (is_some o) (x ∷ filter (λ z. is_some (make z)) xs) (filter (λ z. is_some (make z)) xs))
    by None is more = more
    by (Some y) is more = rw (is, more) refl

module _ (db : Db) (subject : RowName) where
  -- what becomes of a row, by its table
  abbrev change_of : NamedRow → Option Change
  change_of named = option_and_then (λ table. erased db subject table named) (slice_get db.schema.tables named.name.table.0)

  in_table : (number : ℕ) (table : TableDef) → slice_get db.schema.tables number ≡ Some table → (rows : List Row)
      → filter_map (erased db subject table) (rows_in number table rows) ≡ filter_map change_of (rows_in number table rows)
  in_table number table is [] = refl
  in_table number table is (row ∷ rows) = rw (is, in_table number table is rows) refl

  from_table : (number : ℕ) (tables : List TableDef) (rows : List (List Row)) → ((n : ℕ) (table : TableDef) → slice_get tables n ≡ Some table → slice_get db.schema.tables (number + n) ≡ Some table)
      → erased_from db subject number tables rows ≡ filter_map change_of (rows_from number tables rows)
  unfolding erased_from rows_from
  from_table number [] rows tables_are = refl
  from_table number (table ∷ tables) [] tables_are = refl
  from_table number (table ∷ tables) (one ∷ rows) tables_are =
      let n : number + 0 ≡ number = omega arith in
      let is : slice_get db.schema.tables number ≡ Some table = ap (slice_get db.schema.tables) (sym n) ∙ tables_are 0 table refl in
      let others : erased_from db subject (number + 1) tables rows ≡ filter_map change_of (rows_from (number + 1) tables rows) =
      from_table (number + 1) tables rows (λ place found there. let m : number + suc place ≡ number + 1 + place = omega arith in ap (slice_get db.schema.tables) (sym m) ∙ tables_are (suc place) found there) in
      ap (λ front. front ++ erased_from db subject (number + 1) tables rows) (in_table number table is one)
      ∙ (ap (λ rest. filter_map change_of (rows_in number table one) ++ rest) others
      ∙ sym (filter_map-append change_of (rows_in number table one) (rows_from (number + 1) tables rows)))

  all_made : erasures db subject ≡ filter_map change_of (named_rows db)
  all_made = from_table 0 db.schema.tables db.rows (λ n table there. let m : n ≡ 0 + n = omega arith in ap (slice_get db.schema.tables) (sym m) ∙ there)

  -- each is of its row's name
  has_name : (named : NamedRow) → IfSome (change_of named) (λ change. change.name ≡ named.name)
  has_name named = by (slice_get db.schema.tables named.name.table.0)
    where
      by : (o : Option TableDef) → IfSome (option_and_then (λ table. erased db subject table named) o) (λ change. change.name ≡ named.name)
      by None = tt
      by (Some table) = erased-has db subject (λ change. change.name ≡ named.name) table named (λ goes. refl) (λ stay lose. refl)

  abbrev made : NamedRow → Change
  made named = unwrap_or (change_of named) (removal named)

  abbrev is_made : NamedRow → Bool
  is_made named = is_some (change_of named)

  keyed : (named : NamedRow) → (made named).name ≡ named.name
  keyed named = by (change_of named) (has_name named)
    where
      by : (o : Option Change) → IfSome o (λ change. change.name ≡ named.name) → (unwrap_or o (removal named)).name ≡ named.name
      by None is = refl
      by (Some change) is = is

  as_images : erasures db subject ≡ map made (filter is_made (named_rows db))
  as_images = all_made ∙ made_kept change_of removal (named_rows db)

  kept_is : (o : Option Change) (named : NamedRow) → cond (is_some o) (Some (unwrap_or o (removal named))) None ≡ o
  kept_is None named = refl
  kept_is (Some change) named = refl

  at_name : (name : RowName) (table : Option TableDef) (row : Option Row) → slice_get db.schema.tables name.table.0 ≡ table
      → option_and_then (λ row. cond (is_made (as_named name row)) (Some (made (as_named name row))) None) row ≡ option_and_then (λ table. option_and_then (λ row. erased db subject table (as_named name row)) row) table
  at_name name None None is = refl
  at_name name (Some table) None is = refl
  at_name name None (Some row) is = kept_is (change_of (as_named name row)) (as_named name row) ∙ ap (option_and_then (λ table. erased db subject table (as_named name row))) is
  at_name name (Some table) (Some row) is = kept_is (change_of (as_named name row)) (as_named name row) ∙ ap (option_and_then (λ table. erased db subject table (as_named name row))) is

  module _ (ordered : IsOrdered db) where
    erasures_told : (name : RowName) → told (erasures db subject) name ≡ change_at db subject name
    unfolding change_at
    erasures_told name =
        ap (λ changes. told changes name) as_images
        ∙ (found_made (λ (change : Change). change.name) made keyed is_made db name ordered ∙ at_name name (slice_get db.schema.tables name.table.0) (row_of db name) refl)

    erasures_rise : IsRising (λ (change : Change). change.name) name_cmp (erasures db subject)
    erasures_rise = rw as_images (made_rise (λ (change : Change). change.name) made keyed is_made db ordered)

    -- so changes that rise, and tell of each name what becomes of its row, are what becomes of the rows
    pub are_erasures : (changes : List Change) → IsRising (λ (change : Change). change.name) name_cmp changes → AreTold (change_at db subject) changes → changes ≡ erasures db subject
    are_erasures changes rising told_each =
        same_found (λ (change : Change). change.name) name_order changes (erasures db subject) rising erasures_rise (λ name. told_each.each name ∙ sym (erasures_told name))
