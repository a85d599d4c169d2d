-- What becomes of the rows, put into them, gives what is left.
use Rattle.std.proofs.Common.{◌≡◌, ℕ, suc, ◌+◌, List, [], ◌∷◌, map, Bool, true, false, cond, refl, ap, sym, ◌∙◌, subst, filter_map, arith}
use Rattle.std.specs.Prelude.{◌==◌, Option, Some, None, IfSome, filter, slice_get}
use Rattle.std.specs.List.{AllByRecursion, IsDistinct, cons_option}
use Rattle.std.specs.Option.{option_and_then, option_map_or}
use Rattle.std.proofs.lemmas.Bool.{eqb-true, false_from_ne_true}
use Rattle.own_base.specs.Key.{key_cmp}
use Rattle.own_base.specs.declared.change.Change.{Change}
use Rattle.own_base.specs.declared.row_name.RowName.{RowName}
use Rattle.own_base.specs.declared.value.Key.{Key}
use Rattle.own_model.specs.declared.schema.TableDef.{TableDef}
use Rattle.own_model.specs.Db.{AreRising, Db, IsOrdered, Row, key_of}
use Rattle.own_model.specs.Stored.{rows_at}
use Rattle.own_model.proofs.KeyOrder.{key_order}
use Rattle.page_model.specs.Changed.{AreKeyed, with_changes}
use Rattle.page_model.specs.Found.{found}
use Rattle.page_model.specs.Rising.{IsRising}
use Rattle.page_model.proofs.ChangedLemmas.{filter_none, rising_with_changes}
use Rattle.page_model.proofs.FoundChanged.{found_with_changes}
use Rattle.page_model.proofs.InOrder.{rising_differ}
use Rattle.page_model.proofs.SameFound.{same_found}
use Rattle.state_model.specs.MayBePut.{IsPutIn, KeysDiffer, MayBePut}
use Rattle.state_model.specs.Put.{changed_key, is_of_table, put, put_from, row_after, rows_put}
use Rattle.state_model.proofs.Made.{found_made, rising_made}
use Rattle.owner_sets.proofs.Searched.{rising_at}
use Rattle.schema_model.specs.OwnerSchema.{IsOwnerSchema}
use Rattle.subject_model.specs.Forget.{forget, left_from, left_in}
use Rattle.subject_model.specs.Stays.{stays}
use Rattle.subject_model.proofs.ForgetKeys.{key_left}
use Rattle.subject_model.proofs.ForgetRows.{left_in-images, named_in, row_left, stays_in}
use Rattle.subject_erase.specs.Erasures.{blanking, erased, erased_in, erasures, loses_some, removal}
use Rattle.subject_erase.proofs.ErasureLemmas.{each_erasure, each_made, erased-has, erasures_of, made_images}
use Rattle.subject_erase.proofs.RowsLeft.{left_of-kept}

-- images of those that pass are made of those that pass
filter_made : {X Y : Type 0} (f : X → Y) (test : X → Bool) (xs : List X) → map f (filter test xs) ≡ filter_map (λ x. cond (test x) (Some (f x)) None) xs
filter_made f test [] = refl
filter_made f test (x ∷ xs) = by (test x) (filter_made f test xs)
  where
    by : (b : Bool) → map f (filter test xs) ≡ filter_map (λ x. cond (test x) (Some (f x)) None) xs
        → map f (cond b (x ∷ filter test xs) (filter test xs)) ≡ cons_option (cond b (Some (f x)) None) (filter_map (λ x. cond (test x) (Some (f x)) None) xs)
    by true more = ap (λ ys. f x ∷ ys) more
    by false more = more

module _ (db : Db) (subject : RowName) (owner : IsOwnerSchema db.schema) (number : ℕ) (table : TableDef) (is : slice_get db.schema.tables number ≡ Some table) where
  -- what becomes of a row of the table, and what is left of it
  abbrev becomes : Row → Option Change
  becomes row = erased db subject table (named_in number table row)

  abbrev stands : Row → Option Row
  stands row = cond (stays_in db subject number table row) (Some (row_left db subject number table row)) None

  same_key : (row : Row) → IfSome (becomes row) (λ change. changed_key change ≡ key_of table row)
  same_key row = erased-has db subject (λ change. changed_key change ≡ key_of table row) table (named_in number table row) (λ goes. refl) (λ stay lose. refl)

  still_key : (row : Row) → (stay : Bool) → IfSome (cond stay (Some (row_left db subject number table row)) None) (λ left. key_of table left ≡ key_of table row)
  still_key row true = key_left db subject table (named_in number table row) owner is
  still_key row false = tt

  puts_key : (row : Row) → IfSome (becomes row) (λ change. IfSome (row_after change) (λ left. key_of table left ≡ changed_key change))
  puts_key row =
      erased-has db subject (λ change. IfSome (row_after change) (λ left. key_of table left ≡ changed_key change)) table (named_in number table row) (λ goes. tt)
      (λ stay lose. key_left db subject table (named_in number table row) owner is)

  keyed : (rows : List Row) → AreKeyed (key_of table) changed_key row_after (filter_map becomes rows)
  keyed rows = each_made (λ change. IfSome (row_after change) (λ left. key_of table left ≡ changed_key change)) becomes rows (λ place row is. puts_key row)

  -- the row of a key afterwards
  row_is : (row : Row) → (stay lose : Bool) → stays db subject (named_in number table row).name ≡ stay → loses_some db subject table (named_in number table row) ≡ lose
      → option_map_or row_after (cond stay (cond lose (Some (blanking (named_in number table row) (row_left db subject number table row))) None) (Some (removal (named_in number table row)))) (Some row)
      ≡ cond stay (Some (row_left db subject number table row)) None
  row_is row true true stay lose = refl
  row_is row true false stay lose = ap Some (sym (left_of-kept db subject table (named_in number table row) lose))
  row_is row false lost stay lose = refl

  after_is : (before : Option Row) → option_map_or row_after (option_and_then becomes before) before ≡ option_and_then stands before
  after_is None = refl
  after_is (Some row) = row_is row (stays db subject (named_in number table row).name) (loses_some db subject table (named_in number table row)) refl refl

  -- what becomes of the table's rows, put into them, gives what is left of them
  pub table_put : (rows : List Row) → IsRising (key_of table) key_cmp rows
      → with_changes (key_of table) key_cmp changed_key row_after (erased_in db subject number table rows) rows ≡ left_in db subject number table rows
  unfolding found
  table_put rows rises =
      let made : erased_in db subject number table rows ≡ filter_map becomes rows = made_images (erased db subject table) (named_in number table) rows in
      let left : left_in db subject number table rows ≡ filter_map stands rows =
      left_in-images db subject number table rows ∙ filter_made (row_left db subject number table) (stays_in db subject number table) rows in
      let put : List Row = with_changes (key_of table) key_cmp changed_key row_after (filter_map becomes rows) rows in
      let rising : IsRising changed_key key_cmp (filter_map becomes rows) = rising_made (key_of table) changed_key becomes same_key rows rises in
      let same : (key : Key) → found (key_of table) key_cmp key put ≡ found (key_of table) key_cmp key (filter_map stands rows) =
      λ key.
      found_with_changes (key_of table) key_order changed_key row_after key (filter_map becomes rows) rows (keyed rows) (rising_differ key_cmp (map changed_key (filter_map becomes rows)) rising)
      ∙ (ap (λ change. option_map_or row_after change (found (key_of table) key_cmp key rows)) (found_made (key_of table) changed_key becomes same_key key rows rises)
      ∙ (after_is (found (key_of table) key_cmp key rows)
      ∙ sym (found_made (key_of table) (key_of table) stands (λ row. still_key row (stays_in db subject number table row)) key rows rises))) in
      ap (λ changes. with_changes (key_of table) key_cmp changed_key row_after changes rows) made
      ∙ (same_found (key_of table) key_order put (filter_map stands rows)
      (rising_with_changes (key_of table) key_order changed_key row_after (filter_map becomes rows) rows (keyed rows) rises)
      (rising_made (key_of table) (key_of table) stands (λ row. still_key row (stays_in db subject number table row)) rows rises) same
      ∙ sym left)

  -- in it no key stands twice
  pub table_once : (rows : List Row) → IsRising (key_of table) key_cmp rows → KeysDiffer (erased_in db subject number table rows)
  table_once rows rises =
      subst KeysDiffer (sym (made_images (erased db subject table) (named_in number table) rows))
      (rising_differ key_cmp (map changed_key (filter_map becomes rows)) (rising_made (key_of table) changed_key becomes same_key rows rises))

module _ (db : Db) (subject : RowName) (owner : IsOwnerSchema db.schema) where
  put_tables : (number : ℕ) (tables : List TableDef) (rows : List (List Row)) → AreRising tables rows
      → ((n : ℕ) (table : TableDef) → slice_get tables n ≡ Some table → slice_get db.schema.tables (number + n) ≡ Some table)
      → ((n : ℕ) → rows_at rows n ≡ rows_at db.rows (number + n))
      → put_from number tables (erasures db subject) rows ≡ left_from db subject number tables rows
  unfolding put_from left_from
  put_tables number [] [] rising tables_are rows_are = refl
  put_tables number [] (one ∷ rows) rising tables_are rows_are = absurd rising
  put_tables number (table ∷ tables) [] rising tables_are rows_are = absurd rising
  put_tables number (table ∷ tables) (one ∷ rows) rising tables_are rows_are =
      let n : number + 0 ≡ number = omega arith in
      let is : slice_get db.schema.tables number ≡ Some table = ap (slice_get db.schema.tables) (sym n) ∙ tables_are 0 table refl in
      let rows_here : one ≡ rows_at db.rows number = rows_are 0 ∙ ap (rows_at db.rows) n in
      let own : filter (is_of_table number) (erasures db subject) ≡ erased_in db subject number table one =
      erasures_of db subject number table is ∙ ap (erased_in db subject number table) (sym rows_here) in
      let here : rows_put number table (erasures db subject) one ≡ left_in db subject number table one =
      ap (λ changes. with_changes (key_of table) key_cmp changed_key row_after changes one) own ∙ table_put db subject owner number table is one rising.0 in
      let others = put_tables (number + 1) tables rows rising.1
      (λ place found there. let m : number + suc place ≡ number + 1 + place = omega arith in ap (slice_get db.schema.tables) (sym m) ∙ tables_are (suc place) found there)
      (λ place. let m : number + suc place ≡ number + 1 + place = omega arith in rows_are (suc place) ∙ ap (rows_at db.rows) m) in
      rw (here, others) refl

  -- what becomes of the rows, put into them, gives what is left
  rows_left : IsOrdered db → put_from 0 db.schema.tables (erasures db subject) db.rows ≡ left_from db subject 0 db.schema.tables db.rows
  rows_left ordered =
      put_tables 0 db.schema.tables db.rows ordered.rising
      (λ n table there. let m : n ≡ 0 + n = omega arith in ap (slice_get db.schema.tables) (sym m) ∙ there)
      (λ n. let m : n ≡ 0 + n = omega arith in ap (rows_at db.rows) m)

  pub erasures-put : IsOrdered db → put db (erasures db subject) ≡ forget db subject
  unfolding forget
  erasures-put ordered = ap (λ rows. record db { rows = rows }) (rows_left ordered)

  -- each is a change of a table that is there, of its key
  change_of : (number : ℕ) (table : TableDef) (row : Row) → slice_get db.schema.tables number ≡ Some table → IfSome (erased db subject table (named_in number table row)) (IsPutIn db.schema.tables)
  change_of number table row is =
      erased-has db subject (IsPutIn db.schema.tables) table (named_in number table row) (λ goes. rw is tt)
      (λ stay lose. rw is (key_left db subject table (named_in number table row) owner is))

  erasures-theirs : AllByRecursion (IsPutIn db.schema.tables) (erasures db subject)
  erasures-theirs = each_erasure db subject (IsPutIn db.schema.tables) (λ number table place row table_is row_is. change_of number table row table_is)

  -- of a table that isn't there there is none
  none_of : (number : ℕ) → slice_get db.schema.tables number ≡ None → filter (is_of_table number) (erasures db subject) ≡ []
  none_of number none =
      filter_none (is_of_table number) (erasures db subject)
      (each_erasure db subject (λ change. is_of_table number change ≡ false)
      (λ other table place row table_is row_is.
      let apart : (other == number) ≡ false =
      false_from_ne_true (other == number) (λ same. let here : other ≡ number = eqb-true other number same in let never : ◌≡◌ {A = Option TableDef} (Some table) None = sym table_is ∙ (ap (slice_get db.schema.tables) here ∙ none) in cc) in
      erased-has db subject (λ change. is_of_table number change ≡ false) table (named_in other table row) (λ goes. apart) (λ stay lose. apart)))

  once_of : IsOrdered db → (number : ℕ) (found : Option TableDef) → slice_get db.schema.tables number ≡ found → KeysDiffer (filter (is_of_table number) (erasures db subject))
  unfolding IsDistinct
  once_of ordered number None is = subst KeysDiffer (sym (none_of number is)) tt
  once_of ordered number (Some table) is =
      subst KeysDiffer (sym (erasures_of db subject number table is))
      (table_once db subject owner number table is (rows_at db.rows number) (rising_at db.schema.tables db.rows number table ordered.rising is))

  -- and in no table a key stands twice
  pub erasures-may : IsOrdered db → MayBePut db.schema.tables (erasures db subject)
  erasures-may ordered = record { theirs = erasures-theirs; once = λ number. once_of ordered number (slice_get db.schema.tables number) refl }
