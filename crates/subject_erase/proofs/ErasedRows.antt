-- What becomes of the rows by flags is what becomes of them.
use Rattle.std.proofs.Common.{◌≡◌, ℕ, suc, ◌+◌, ◌≤◌, List, [], ◌∷◌, ◌++◌, length, drop, refl, ap, sym, ◌∙◌, append_assoc, append-nil, filter_map, flat_map, arith}
use Rattle.std.specs.Prelude.{Option, Some, None, slice_get}
use Rattle.std.specs.List.{cons_option, enumerate_from}
use Rattle.std.specs.Option.{option_to_list}
use Rattle.std.proofs.lemmas.List.{drop_all, drop_more}
use Rattle.std.proofs.lemmas.Option.{get_or_from_slice_get}
use Rattle.own_base.specs.declared.row_name.RowName.{RowName}
use Rattle.own_model.specs.declared.schema.TableDef.{TableDef}
use Rattle.own_model.specs.Db.{AreRising, Db, IsOrdered, Row}
use Rattle.own_model.specs.Stored.{rows_at}
use Rattle.owner_sets.specs.ByEdges.{AreEdgesOf, EdgeLists, edges_at}
use Rattle.schema_model.specs.OwnerSchema.{ColumnsRefer, IsOwnerSchema}
use Rattle.schema_model.specs.WithinLimits.{IsWithinLimits}
use Rattle.schema_model.proofs.Places.{all-at, place-lt}
use Rattle.state_model.specs.Rows.{AreRowsOf}
use Rattle.state_model.proofs.StoredRows.{row-within}
use Rattle.subject_model.specs.Stays.{stays}
use Rattle.subject_model.proofs.ForgetRows.{named_in}
use Rattle.subject_erase.specs.Erasures.{erased, erased_from, erased_in, erasures}
use Rattle.subject_erase.specs.Flags.{AreFlagsOf, Flags, flag_at}
use Rattle.subject_erase.specs.Losing.{erased_at, erased_rows, erased_table}
use Rattle.subject_erase.proofs.ErasureLemmas.{made_images}
use Rattle.subject_erase.proofs.LoseLemmas.{erased-by}

-- what is made of numbered items
numbered_made : {X Y : Type 0} (f : ℕ × X → Option Y) (g : X → Option Y) (number : ℕ) (xs : List X) → ((place : ℕ) (x : X) → slice_get xs place ≡ Some x → f (number + place, x) ≡ g x)
    → filter_map f (enumerate_from number xs) ≡ filter_map g xs
numbered_made f g number [] same = refl
numbered_made f g number (x ∷ xs) same =
    let n : number + 0 ≡ number = omega arith in
    let here : f (number, x) ≡ g x = ap (λ n. f (n, x)) (sym n) ∙ same 0 x refl in
    let others = numbered_made f g (number + 1) xs (λ place y is. let m : number + suc place ≡ number + 1 + place = omega arith in ap (λ n. f (n, y)) (sym m) ∙ same (suc place) y is) in
    ap (λ o. cons_option o (filter_map f (enumerate_from (number + 1) xs))) here ∙ ap (cons_option (g x)) others

-- one item more is gone through
join_option : {Y : Type 0} (o : Option Y) (before ys : List Y) → (before ++ option_to_list o) ++ ys ≡ before ++ cons_option o ys
join_option None before ys = ap (λ front. front ++ ys) (append-nil before)
join_option (Some y) before ys = append_assoc before (y ∷ []) ys

pub passed-more : {X Y : Type 0} (f : ℕ × X → Option Y) (xs : List X) (at : ℕ) (x : X) (before all : List Y) → slice_get xs at ≡ Some x
    → before ++ filter_map f (enumerate_from at (drop at xs)) ≡ all
    → (before ++ option_to_list (f (at, x))) ++ filter_map f (enumerate_from (at + 1) (drop (at + 1) xs)) ≡ all
passed-more f xs at x before all is so_far =
    let dropped : drop at xs ≡ x ∷ drop (at + 1) xs = drop_more xs at x (place-lt xs at x is) ∙ ap (λ y. y ∷ drop (at + 1) xs) (get_or_from_slice_get xs at x x is) in
    join_option (f (at, x)) before (filter_map f (enumerate_from (at + 1) (drop (at + 1) xs)))
    ∙ (ap (λ rest. before ++ filter_map f (enumerate_from at rest)) (sym dropped) ∙ so_far)

-- all are gone through
pub passed-all : {X Y : Type 0} (f : ℕ × X → Option Y) (xs : List X) (at : ℕ) (before all : List Y) → length xs ≤ at → before ++ filter_map f (enumerate_from at (drop at xs)) ≡ all → before ≡ all
passed-all f xs at before all past so_far = sym (append-nil before) ∙ (ap (λ rest. before ++ filter_map f (enumerate_from at rest)) (sym (drop_all at xs past)) ∙ so_far)

-- and so with lists that are made of items
pub listed-more : {X Y : Type 0} (f : ℕ × X → List Y) (xs : List X) (at : ℕ) (x : X) (before all : List Y) → slice_get xs at ≡ Some x
    → before ++ flat_map f (enumerate_from at (drop at xs)) ≡ all → (before ++ f (at, x)) ++ flat_map f (enumerate_from (at + 1) (drop (at + 1) xs)) ≡ all
listed-more f xs at x before all is so_far =
    let dropped : drop at xs ≡ x ∷ drop (at + 1) xs = drop_more xs at x (place-lt xs at x is) ∙ ap (λ y. y ∷ drop (at + 1) xs) (get_or_from_slice_get xs at x x is) in
    append_assoc before (f (at, x)) (flat_map f (enumerate_from (at + 1) (drop (at + 1) xs)))
    ∙ (ap (λ rest. before ++ flat_map f (enumerate_from at rest)) (sym dropped) ∙ so_far)

pub listed-all : {X Y : Type 0} (f : ℕ × X → List Y) (xs : List X) (at : ℕ) (before all : List Y) → length xs ≤ at → before ++ flat_map f (enumerate_from at (drop at xs)) ≡ all → before ≡ all
listed-all f xs at before all past so_far = sym (append-nil before) ∙ (ap (λ rest. before ++ flat_map f (enumerate_from at rest)) (sym (drop_all at xs past)) ∙ so_far)

module _ (db : Db) (subject : RowName) (ordered : IsOrdered db) (owner : IsOwnerSchema db.schema) (limits : IsWithinLimits db.schema) (rows_are : AreRowsOf db.schema.tables db.rows)
    (staying : Flags) (by : EdgeLists) (stay : AreFlagsOf db (stays db subject) staying) (reach : AreEdgesOf db subject by) where
  -- of the row at a place
  erased-at : (number : ℕ) (table : TableDef) → slice_get db.schema.tables number ≡ Some table → (place : ℕ) (row : Row) → slice_get (rows_at db.rows number) place ≡ Some row
      → erased_at db.schema db.rows staying by number table (place, row) ≡ erased db subject table (named_in number table row)
  erased-at number table is place row row_is =
      let refer : ColumnsRefer db.schema table = all-at (ColumnsRefer db.schema) db.schema.tables owner.columns number table is in
      erased-by db ordered subject staying stay table
      (λ column_number column link column_is refers. let key = (refer column_number column link column_is refers).1 in (key.table, key.table_is)) (named_in number table row)
      (flag_at staying number place) (edges_at by number place) (row-within db.schema db.rows number place table row limits rows_are is row_is)
      ((stay.each number).at place table row is row_is) ((reach.each number).at place table row is row_is)

  -- of the rows of a table
  erased-table : (number : ℕ) (table : TableDef) → slice_get db.schema.tables number ≡ Some table → erased_table db.schema db.rows staying by (number, table) ≡ erased_in db subject number table (rows_at db.rows number)
  unfolding erased_table
  erased-table number table is =
      numbered_made (erased_at db.schema db.rows staying by number table) (λ row. erased db subject table (named_in number table row)) 0 (rows_at db.rows number)
      (λ place row row_is. let n : 0 + place ≡ place = omega arith in ap (λ n. erased_at db.schema db.rows staying by number table (n, row)) n ∙ erased-at number table is place row row_is)
      ∙ sym (made_images (erased db subject table) (named_in number table) (rows_at db.rows number))

  erased-from : (number : ℕ) (tables : List TableDef) (rows : List (List Row)) → AreRising tables rows
      → ((n : ℕ) (table : TableDef) → slice_get tables n ≡ Some table → slice_get db.schema.tables (number + n) ≡ Some table)
      → ((n : ℕ) → rows_at rows n ≡ rows_at db.rows (number + n))
      → flat_map (erased_table db.schema db.rows staying by) (enumerate_from number tables) ≡ erased_from db subject number tables rows
  unfolding erased_from
  erased-from number [] rows rising tables_are rows_same = refl
  erased-from number (table ∷ tables) [] rising tables_are rows_same = absurd rising
  erased-from number (table ∷ tables) (one ∷ rows) rising tables_are rows_same =
      let n : number + 0 ≡ number = omega arith in
      let is : slice_get db.schema.tables number ≡ Some table = ap (slice_get db.schema.tables) (sym n) ∙ tables_are 0 table refl in
      let one_is : rows_at db.rows number ≡ one = ap (rows_at db.rows) (sym n) ∙ sym (rows_same 0) in
      let first : erased_table db.schema db.rows staying by (number, table) ≡ erased_in db subject number table one = erased-table number table is ∙ ap (erased_in db subject number table) one_is in
      let others = erased-from (number + 1) tables rows rising.1
      (λ place found there. let m : number + suc place ≡ number + 1 + place = omega arith in ap (slice_get db.schema.tables) (sym m) ∙ tables_are (suc place) found there)
      (λ place. let m : number + suc place ≡ number + 1 + place = omega arith in rows_same (suc place) ∙ ap (rows_at db.rows) m) in
      ap (λ front. front ++ flat_map (erased_table db.schema db.rows staying by) (enumerate_from (number + 1) tables)) first ∙ ap (λ rest. erased_in db subject number table one ++ rest) others

  -- of all rows
  pub erased-rows : erased_rows db.schema db.rows staying by ≡ erasures db subject
  unfolding erased_rows
  erased-rows =
      erased-from 0 db.schema.tables db.rows ordered.rising (λ n table there. let m : n ≡ 0 + n = omega arith in ap (slice_get db.schema.tables) (sym m) ∙ there)
      (λ n. let m : n ≡ 0 + n = omega arith in ap (rows_at db.rows) m)
