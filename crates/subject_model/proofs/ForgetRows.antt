-- Which rows a FORGET leaves, by name.
use Rattle.std.proofs.Common.{◌≡◌, ℕ, zero, suc, ◌+◌, List, [], ◌∷◌, map, Bool, true, false, cond, refl, ap, sym, ◌∙◌, subst, arith}
use Rattle.std.specs.Prelude.{◌&&◌, Option, Some, None, Contains, filter, find, is_some, slice_get, if◌then◌else◌}
use Rattle.std.specs.Option.{option_and_then}
use Rattle.own_base.specs.declared.row_name.RowName.{RowName}
use Rattle.own_base.specs.declared.value.Key.{Key}
use Rattle.own_model.specs.declared.schema.TableDef.{TableDef}
use Rattle.own_model.specs.Db.{Db, Row, key_of}
use Rattle.own_model.specs.Stored.{has_key, is_equal, row_named, rows_at}
use Rattle.own_base.specs.Key.{key_cmp}
use Rattle.owner_model.specs.Joins.{row_of}
use Rattle.schema_model.specs.OwnerSchema.{IsOwnerSchema}
use Rattle.subject_model.specs.Forget.{forget, left_from, left_in, left_of}
use Rattle.subject_model.specs.Named.{NamedRow, is_there, name_of}
use Rattle.subject_model.specs.Stays.{stays}
use Rattle.subject_model.proofs.ForgetKeys.{key_left}
use Rattle.subject_model.proofs.Members.{contains_of_filter, contains_of_map}
use Rattle.subject_model.proofs.NamedLemmas.{one_key}

-- a filter of images is the images of a filter
filter_images : {X Y Z : Type 0} (f : Y → Z) (test : Y → Bool) (g : X → Y) (xs : List X) → map f (filter test (map g xs)) ≡ map (λ x. f (g x)) (filter (λ x. test (g x)) xs)
filter_images f test g [] = refl
filter_images f test g (x ∷ xs) = by (test (g x)) (filter_images f test g xs)
  where
    by : (b : Bool) → map f (filter test (map g xs)) ≡ map (λ x. f (g x)) (filter (λ x. test (g x)) xs)
        → map f (cond b (g x ∷ filter test (map g xs)) (filter test (map g xs))) ≡ map (λ x. f (g x)) (cond b (x ∷ filter (λ x. test (g x)) xs) (filter (λ x. test (g x)) xs))
    by true more = ap (λ ys. f (g x) ∷ ys) more
    by false more = more

-- a row of the table of a number, with its name
abbrev pub named_in : ℕ → TableDef → Row → NamedRow
named_in number table row = record { name = name_of number table row; row = row }

-- whether it stays, and what is left of it
abbrev pub stays_in : Db → RowName → ℕ → TableDef → Row → Bool
stays_in db subject number table row = stays db subject (name_of number table row)

abbrev pub row_left : Db → RowName → ℕ → TableDef → Row → Row
row_left db subject number table row = left_of db subject table (named_in number table row)

-- what is left of a table is what is left of each row that stays
pub left_in-images : (db : Db) (subject : RowName) (number : ℕ) (table : TableDef) (rows : List Row)
    → left_in db subject number table rows ≡ map (row_left db subject number table) (filter (stays_in db subject number table) rows)
left_in-images db subject number table rows = filter_images (left_of db subject table) (λ named. stays db subject named.name) (named_in number table) rows

-- the rows of a table that are left, at its number
left_at : (db : Db) (subject : RowName) (number : ℕ) (tables : List TableDef) (rows : List (List Row)) (place : ℕ) (table : TableDef) → slice_get tables place ≡ Some table
    → rows_at (left_from db subject number tables rows) place ≡ left_in db subject (number + place) table (rows_at rows place)
unfolding left_from
left_at db subject number [] rows place table is = cc
left_at db subject number (first ∷ tables) [] place table is = refl
left_at db subject number (first ∷ tables) (one ∷ rows) zero table is =
    let same : first ≡ table = cc in
    let n : number ≡ number + zero = omega arith in
    ap (λ t. left_in db subject number t one) same ∙ ap (λ n. left_in db subject n table one) n
left_at db subject number (first ∷ tables) (one ∷ rows) (suc place) table is =
    let n : number + 1 + place ≡ number + suc place = omega arith in
    left_at db subject (number + 1) tables rows place table is ∙ ap (λ n. left_in db subject n table (rows_at rows place)) n

pub rows_at-forget : (db : Db) (subject : RowName) (number : ℕ) (table : TableDef) → slice_get db.schema.tables number ≡ Some table
    → rows_at (forget db subject).rows number ≡ left_in db subject number table (rows_at db.rows number)
unfolding forget
rows_at-forget db subject number table is =
    let n : 0 + number ≡ number = omega arith in
    left_at db subject 0 db.schema.tables db.rows number table is ∙ ap (λ n. left_in db subject n table (rows_at db.rows number)) n

-- the row of a name where it stays
abbrev pub left_named : Db → RowName → TableDef → RowName → Row → Option Row
left_named db subject table name row = if stays db subject name then Some (left_of db subject table (record { name = name; row = row })) else None

module _ (db : Db) (subject : RowName) (owner : IsOwnerSchema db.schema) (number : ℕ) (table : TableDef) (is : slice_get db.schema.tables number ≡ Some table) where
  abbrev name : Key → RowName
  name key = record { table = record { 0 = number }; key = key }

  -- a row has the key that it had
  same_key : (row : Row) → key_of table (row_left db subject number table row) ≡ key_of table row
  same_key row = key_left db subject table (named_in number table row) owner is

  still_has : (key : Key) (row : Row) → has_key table key (row_left db subject number table row) ≡ has_key table key row
  still_has key row = ap (λ k. is_equal (key_cmp k key)) (same_key row)

  -- a name that doesn't stay has none
  none_stays : (key : Key) (found : Option Row) → stays db subject (name key) ≡ false → option_and_then (left_named db subject table (name key)) found ≡ None
  none_stays key None gone = refl
  none_stays key (Some row) gone = rw gone refl

  -- the row of a key among those left
  find_left : (key : Key) (rows : List Row) → find (has_key table key) (map (row_left db subject number table) (filter (stays_in db subject number table) rows))
      ≡ option_and_then (left_named db subject table (name key)) (find (has_key table key) rows)
  find_left key [] = refl
  find_left key (first ∷ rows) = by (find_left key rows) _ _ refl refl
    where
      left : List Row
      left = filter (stays_in db subject number table) rows

      by : find (has_key table key) (map (row_left db subject number table) left) ≡ option_and_then (left_named db subject table (name key)) (find (has_key table key) rows)
          → (has stay : Bool) → has_key table key first ≡ has → stays_in db subject number table first ≡ stay
          → find (has_key table key) (map (row_left db subject number table) (cond stay (first ∷ left) left))
          ≡ option_and_then (left_named db subject table (name key)) (cond has (Some first) (find (has_key table key) rows))
      by more true true has stay =
          let key_is : key_of table first ≡ key = one_key _ _ has in
          let still : has_key table key (row_left db subject number table first) ≡ true = still_has key first ∙ has in
          let own : left_named db subject table (name (key_of table first)) first ≡ Some (row_left db subject number table first) = rw stay refl in
          rw still (sym own ∙ ap (λ k. left_named db subject table (name k) first) key_is)
      by more true false has stay =
          let key_is : key_of table first ≡ key = one_key _ _ has in
          let gone : stays db subject (name key) ≡ false = subst (λ k. stays db subject (name k) ≡ false) key_is stay in
          more ∙ (none_stays key (find (has_key table key) rows) gone ∙ sym (none_stays key (Some first) gone))
      by more false true has stay = let still : has_key table key (row_left db subject number table first) ≡ false = still_has key first ∙ has in rw still more
      by more false false has stay = more

  -- the row of a name of the table
  row_of-left : (key : Key) → row_of (forget db subject) (name key) ≡ option_and_then (left_named db subject table (name key)) (row_of db (name key))
  unfolding forget row_named
  row_of-left key =
      let rows : rows_at (forget db subject).rows number ≡ map (row_left db subject number table) (filter (stays_in db subject number table) (rows_at db.rows number)) =
      rows_at-forget db subject number table is ∙ left_in-images db subject number table (rows_at db.rows number) in
      rw is (ap (find (has_key table key)) rows ∙ find_left key (rows_at db.rows number))

-- the row that a FORGET leaves of a name: where the row stays, what is left of it
pub row_of-forget : (db : Db) (subject name : RowName) (table : TableDef) → IsOwnerSchema db.schema → slice_get db.schema.tables name.table.0 ≡ Some table
    → row_of (forget db subject) name ≡ option_and_then (left_named db subject table name) (row_of db name)
row_of-forget db subject name table owner is = row_of-left db subject owner name.table.0 table is name.key

-- the schema is the same
pub schema-forget : (db : Db) (subject : RowName) → (forget db subject).schema ≡ db.schema
unfolding forget
schema-forget db subject = refl

-- A row that is left: that of its name before, which stays, with what it keeps of its values.
pub record IsLeft (db : Db) (subject name : RowName) (left : Row) : Type 0 where
  pub table : TableDef
  pub table_is : slice_get db.schema.tables name.table.0 ≡ Some table
  pub row : Row
  pub row_is : row_of db name ≡ Some row
  pub stays : stays db subject name ≡ true
  pub left_is : left ≡ left_of db subject table (record { name = name; row = row })

left_case : (db : Db) (subject name : RowName) (left : Row) (table : TableDef) → slice_get db.schema.tables name.table.0 ≡ Some table
    → (found : Option Row) → row_of db name ≡ found → option_and_then (left_named db subject table name) found ≡ Some left → IsLeft db subject name left
left_case db subject name left table is None none gives = let never : ◌≡◌ {A = Option Row} None (Some left) = gives in cc
left_case db subject name left table is (Some row) some gives = by _ refl gives
  where
    by : (stay : Bool) → stays db subject name ≡ stay → (if stay then Some (left_of db subject table (record { name = name; row = row })) else None) ≡ Some left → IsLeft db subject name left
    by true stay gives = record { table = table; table_is = is; row = row; row_is = some; stays = stay; left_is = cc }
    by false gone gives = let never : ◌≡◌ {A = Option Row} None (Some left) = gives in cc

table_case : (db : Db) (subject name : RowName) (left : Row) → IsOwnerSchema db.schema → row_of (forget db subject) name ≡ Some left
    → (found : Option TableDef) → slice_get db.schema.tables name.table.0 ≡ found → IsLeft db subject name left
unfolding forget row_named
table_case db subject name left owner is None none = let never : ◌≡◌ {A = Option Row} None (Some left) = rw none at is in cc
table_case db subject name left owner is (Some table) some = left_case db subject name left table some _ refl (sym (row_of-forget db subject name table owner some) ∙ is)

-- each row that is there after a FORGET is one that is left
pub is_left : (db : Db) (subject name : RowName) (left : Row) → IsOwnerSchema db.schema → row_of (forget db subject) name ≡ Some left → IsLeft db subject name left
is_left db subject name left owner is = table_case db subject name left owner is _ refl

-- and each row that stays is left
pub left-stays : (db : Db) (subject name : RowName) (table : TableDef) (row : Row) → IsOwnerSchema db.schema → slice_get db.schema.tables name.table.0 ≡ Some table
    → row_of db name ≡ Some row → stays db subject name ≡ true → row_of (forget db subject) name ≡ Some (left_of db subject table (record { name = name; row = row }))
left-stays db subject name table row owner is there stay = row_of-forget db subject name table owner is ∙ rw (there, stay) refl

some_left : (db : Db) (subject name : RowName) (table : TableDef) (found : Option Row) → is_some (option_and_then (left_named db subject table name) found) ≡ (is_some found && stays db subject name)
some_left db subject name table None = refl
some_left db subject name table (Some row) = by (stays db subject name)
  where
    by : (stay : Bool) → is_some (if stay then Some (left_of db subject table (record { name = name; row = row })) else None) ≡ stay
    by true = refl
    by false = refl

there_step : (db : Db) (subject name : RowName) → IsOwnerSchema db.schema → (found : Option TableDef) → slice_get db.schema.tables name.table.0 ≡ found
    → is_there (forget db subject) name ≡ (is_there db name && stays db subject name)
unfolding forget row_named
there_step db subject name owner None none = rw none refl
there_step db subject name owner (Some table) some = ap is_some (row_of-forget db subject name table owner some) ∙ some_left db subject name table (row_of db name)

-- So a name is there after a FORGET exactly where it was there and stays.
pub is_there-forget : (db : Db) (subject name : RowName) → IsOwnerSchema db.schema → is_there (forget db subject) name ≡ (is_there db name && stays db subject name)
is_there-forget db subject name owner = there_step db subject name owner _ refl

rows_get : (db : Db) (subject : RowName) (number : ℕ) (tables : List TableDef) (rows : List (List Row)) (place : ℕ) (table : TableDef) (left : List Row) → slice_get tables place ≡ Some table
    → slice_get (left_from db subject number tables rows) place ≡ Some left → (before : List Row) × (slice_get rows place ≡ Some before) × (left ≡ left_in db subject (number + place) table before)
unfolding left_from
rows_get db subject number [] rows place table left is gives = cc
rows_get db subject number (first ∷ tables) [] place table left is gives = cc
rows_get db subject number (first ∷ tables) (one ∷ rows) zero table left is gives =
    let same : first ≡ table = cc in
    let own : left_in db subject number first one ≡ left = cc in
    let n : number ≡ number + zero = omega arith in
    (one, refl, sym own ∙ (ap (λ t. left_in db subject number t one) same ∙ ap (λ n. left_in db subject n table one) n))
rows_get db subject number (first ∷ tables) (one ∷ rows) (suc place) table left is gives =
    let n : number + 1 + place ≡ number + suc place = omega arith in
    let (before, there, left_is) = rows_get db subject (number + 1) tables rows place table left is gives in
    (before, there, left_is ∙ ap (λ n. left_in db subject n table before) n)

-- the rows that are left at a number are what is left of those that were there
pub rows_get-forget : (db : Db) (subject : RowName) (number : ℕ) (table : TableDef) (left : List Row) → slice_get db.schema.tables number ≡ Some table
    → slice_get (forget db subject).rows number ≡ Some left → (before : List Row) × (slice_get db.rows number ≡ Some before) × (left ≡ left_in db subject number table before)
unfolding forget
rows_get-forget db subject number table left is gives =
    let n : 0 + number ≡ number = omega arith in
    let (before, there, left_is) = rows_get db subject 0 db.schema.tables db.rows number table left is gives in
    (before, there, left_is ∙ ap (λ n. left_in db subject n table before) n)

-- each row that is left of a table's is what is left of one that stays
pub record IsLeftIn (db : Db) (subject : RowName) (number : ℕ) (table : TableDef) (rows : List Row) (left : Row) : Type 0 where
  pub row : Row
  pub among : Contains rows row
  pub stays : stays_in db subject number table row ≡ true
  pub left_is : row_left db subject number table row ≡ left

pub contains_left_in : (db : Db) (subject : RowName) (number : ℕ) (table : TableDef) (rows : List Row) (left : Row) → Contains (left_in db subject number table rows) left
    → IsLeftIn db subject number table rows left
contains_left_in db subject number table rows left among =
    let images : Contains (map (row_left db subject number table) (filter (stays_in db subject number table) rows)) left =
    subst (λ xs. Contains xs left) (left_in-images db subject number table rows) among in
    let (row, kept, same) = contains_of_map (row_left db subject number table) (filter (stays_in db subject number table) rows) left images in
    let own = contains_of_filter (stays_in db subject number table) rows row kept in
    record { row = row; among = own.0; stays = own.1; left_is = same }
