-- The rows of the table of a number, and where two databases have the same ones.
use Rattle.std.proofs.Common.{◌≡◌, ◌≢◌, ◌==◌, ℕ, zero, suc, List, [], ◌∷◌, Bool, true, false, Option, Some, None, refl, sym, ap, ◌∙◌, subst}
use Rattle.std.specs.Prelude.{slice_get, slice_set}
use Rattle.std.specs.List.{AllByRecursion as Each, find}
use Rattle.std.specs.Option.{option_and_then}
use Rattle.std.proofs.lemmas.Bool.{eqb-false, eqb-true}
use Rattle.std.proofs.lemmas.List.{get_or-set_other}
use Rattle.own_base.specs.declared.row_name.RowName.{RowName}
use Rattle.own_base.specs.declared.value.Key.{Key}
use Rattle.own_base.specs.declared.value.Value.{Value}
use Rattle.own_base.specs.declared.value.Value.TheVariants.{Null, Int, Text, Sum}
use Rattle.own_model.specs.declared.footprint.FootItem.{FootItem}
use Rattle.own_model.specs.declared.schema.Column.{Column}
use Rattle.own_model.specs.declared.schema.Schema.{Schema}
use Rattle.own_model.specs.declared.schema.TableDef.{TableDef}
use Rattle.own_model.specs.Db.{AreRising, Db, IsOrdered, Row}
use Rattle.own_model.specs.Stored.{has_key, row_named, rows_at}
use Rattle.query_model.specs.Stored.{IsStored}
use Rattle.query_model.specs.Truth.{cell}
use Rattle.state_model.specs.Rows.{AreOfKinds, AreRowsOf, IsOfKind, IsRowOf}
use Rattle.state_model.specs.Sound.{IsWellFormed}
use Rattle.state_model.proofs.StoredRows.{rows-at}
use Rattle.run_model.specs.Agree.{AgreeOn}
use Rattle.run_model.specs.Run.{stored}

-- the rows of a database rise by key in each table, and may stand there
pub record AreInPlace (db : Db) : Type 0 where
  pub ordered : IsOrdered db
  pub rows : AreRowsOf db.schema.tables db.rows

-- those of a kept database are in place
pub in_place : (db : Db) → IsWellFormed db → AreInPlace db
in_place db kept = record { ordered = kept.ordered; rows = kept.rows }

-- what is found is one
pub one_found : {X : Type 0} {found : Option X} (x y : X) → found ≡ Some x → found ≡ Some y → x ≡ y
one_found x y is also = cc

-- a table that isn't there has no rows
pub no_rows : (tables : List TableDef) (rows : List (List Row)) (number : ℕ) → AreRising tables rows → slice_get tables number ≡ None → rows_at rows number ≡ []
no_rows [] [] number rising is = refl
no_rows [] (one ∷ rows) number rising is = absurd rising
no_rows (first ∷ tables) [] number rising is = refl
no_rows (first ∷ tables) (one ∷ rows) zero rising is = cc
no_rows (first ∷ tables) (one ∷ rows) (suc number) rising is = no_rows tables rows number rising.1 is

-- no sum stands in a column
stored_value : (column : Column) (value : Value) → IsOfKind column.kind value → IsStored value
stored_value column Null is = tt
stored_value column (Int number) is = tt
stored_value column (Text bytes) is = tt
stored_value column (Sum number) is = is

stored_cell : (columns : List Column) (row : Row) (column : ℕ) → AreOfKinds columns row → IsStored (cell row column)
stored_cell columns [] column all = tt
stored_cell [] (value ∷ row) column all = absurd all
stored_cell (first ∷ columns) (value ∷ row) zero all = stored_value first value all.0
stored_cell (first ∷ columns) (value ∷ row) (suc column) all = stored_cell columns row column all.1

stored_cells : (table : TableDef) (rows : List Row) (column : ℕ) → Each (IsRowOf table) rows → Each (λ row. IsStored (cell row column)) rows
stored_cells table [] column all = tt
stored_cells table (first ∷ rest) column all = (stored_cell table.columns first column all.0.kinds, stored_cells table rest column all.1)

pub stored_keys : (db : Db) (number : ℕ) (table : TableDef) → AreInPlace db → slice_get db.schema.tables number ≡ Some table
    → Each (λ row. IsStored (cell row table.key.0)) (rows_at db.rows number)
stored_keys db number table place is = stored_cells table (rows_at db.rows number) table.key.0 (rows-at db.schema.tables db.rows number table place.rows is)

-- other rows in a table that is there
pub rows_put : (tables : List TableDef) (rows : List (List Row)) (number : ℕ) (table : TableDef) (new : List Row) → AreRising tables rows
    → slice_get tables number ≡ Some table → rows_at (slice_set rows number new) number ≡ new
rows_put [] rows number table new rising is = cc
rows_put (first ∷ tables) [] number table new rising is = absurd rising
rows_put (first ∷ tables) (one ∷ rows) zero table new rising is = refl
rows_put (first ∷ tables) (one ∷ rows) (suc number) table new rising is = rows_put tables rows number table new rising.1 is

-- none in one that isn't there
pub none_put : (tables : List TableDef) (rows : List (List Row)) (number : ℕ) → AreRising tables rows
    → slice_get tables number ≡ None → rows_at (slice_set rows number []) number ≡ []
none_put [] [] number rising is = refl
none_put [] (one ∷ rows) number rising is = absurd rising
none_put (first ∷ tables) [] number rising is = absurd rising
none_put (first ∷ tables) (one ∷ rows) zero rising is = cc
none_put (first ∷ tables) (one ∷ rows) (suc number) rising is = none_put tables rows number rising.1 is

-- two lists of rows are the same, or have the same row of a key in the table of a number
abbrev pub AreSame : Schema → ℕ → Option Key → List Row → List Row → Type 0
AreSame schema number None rows others = rows ≡ others
AreSame schema number (Some key) rows others = (table : TableDef) → slice_get schema.tables number ≡ Some table → find (has_key table key) rows ≡ find (has_key table key) others

-- the same rows have the same rows
pub same_from_rows : (schema : Schema) (number : ℕ) (key : Option Key) {rows others : List Row} → rows ≡ others → AreSame schema number key rows others
same_from_rows schema number None same = same
same_from_rows schema number (Some key) same = λ table is. ap (find (has_key table key)) same

-- the row of a name, by the table of its number
found_in : (schema : Schema) (rows : List (List Row)) (name : RowName) (table : TableDef) → slice_get schema.tables name.table.0 ≡ Some table
    → row_named schema rows name ≡ find (has_key table name.key) (rows_at rows name.table.0)
unfolding row_named
found_in schema rows name table is = rw is refl

named_same : (schema : Schema) (rows others : List (List Row)) (name : RowName) → AreSame schema name.table.0 (Some name.key) (rows_at rows name.table.0) (rows_at others name.table.0)
    → row_named schema rows name ≡ row_named schema others name
unfolding row_named
named_same schema rows others name same = by (slice_get schema.tables name.table.0) refl
  where
    by : (found : Option TableDef) → slice_get schema.tables name.table.0 ≡ found
        → option_and_then (λ table. find (has_key table name.key) (rows_at rows name.table.0)) found
        ≡ option_and_then (λ table. find (has_key table name.key) (rows_at others name.table.0)) found
    by None is = refl
    by (Some table) is = same table is

module _ (db other : Db) (schema : db.schema ≡ other.schema) where
  -- what two databases that agree on an item have in its table
  pub same_from_agree : (item : FootItem) → AgreeOn db other item → AreSame db.schema item.table.0 item.key (rows_at db.rows item.table.0) (rows_at other.rows item.table.0)
  same_from_agree item agree = by item.key agree
    where
      by : (key : Option Key) → AgreeOn db other (record item { key = key }) → AreSame db.schema item.table.0 key (rows_at db.rows item.table.0) (rows_at other.rows item.table.0)
      by None agree = agree
      by (Some key) agree = λ table is.
          let name : RowName = record { table = item.table; key = key } in
          let here = found_in db.schema db.rows name table is in
          let there = found_in other.schema other.rows name table (rw (← schema) is) in
          sym here ∙ (agree ∙ there)

  -- and the other way round
  pub agree_from_same : (item : FootItem) → AreSame db.schema item.table.0 item.key (rows_at db.rows item.table.0) (rows_at other.rows item.table.0) → AgreeOn db other item
  agree_from_same item same = by item.key same
    where
      by : (key : Option Key) → AreSame db.schema item.table.0 key (rows_at db.rows item.table.0) (rows_at other.rows item.table.0) → AgreeOn db other (record item { key = key })
      by None same = same
      by (Some key) same =
          let name : RowName = record { table = item.table; key = key } in
          named_same db.schema db.rows other.rows name same ∙ ap (λ schema. row_named schema other.rows name) schema

-- a database agrees with itself
pub agree_itself : (db : Db) (item : FootItem) → AgreeOn db db item
agree_itself db item = agree_from_same db db refl item (same_from_rows db.schema item.table.0 item.key refl)

-- New rows in a table of each, the same where the rows before were: the databases agree on an item where they did.
pub agree-stored : (db other : Db) (schema : db.schema ≡ other.schema) (number : ℕ) (new news : List Row) (count counts : ℕ)
    → rows_at (slice_set db.rows number new) number ≡ new → rows_at (slice_set other.rows number news) number ≡ news
    → ((key : Option Key) → AreSame db.schema number key (rows_at db.rows number) (rows_at other.rows number) → AreSame db.schema number key new news)
    → (item : FootItem) → AgreeOn db other item → AgreeOn (stored db number new count).db (stored other number news counts).db item
agree-stored db other schema number new news count counts here there same item agree = by (item.table.0 == number) refl
  where
    by : (b : Bool) → (item.table.0 == number) ≡ b → AgreeOn (stored db number new count).db (stored other number news counts).db item
    by true is =
        let at : item.table.0 ≡ number = eqb-true _ _ is in
        agree_from_same (stored db number new count).db (stored other number news counts).db schema item
        (rw (at, here, there) (same item.key (subst (λ n. AreSame db.schema n item.key (rows_at db.rows n) (rows_at other.rows n)) at (same_from_agree db other schema item agree))))
    by false is =
        let off : item.table.0 ≢ number = eqb-false _ _ is in
        agree_from_same (stored db number new count).db (stored other number news counts).db schema item
        (rw (get_or-set_other db.rows number item.table.0 new [] off, get_or-set_other other.rows number item.table.0 news [] off) (same_from_agree db other schema item agree))

-- New rows in a table: an item stays as it was, if they are the same on one of that table.
pub still-stored : (db : Db) (number : ℕ) (new : List Row) (count : ℕ) → rows_at (slice_set db.rows number new) number ≡ new
    → (item : FootItem) → (item.table.0 ≡ number → AreSame db.schema number item.key (rows_at db.rows number) new)
    → AgreeOn db (stored db number new count).db item
still-stored db number new count here item same = by (item.table.0 == number) refl
  where
    by : (b : Bool) → (item.table.0 == number) ≡ b → AgreeOn db (stored db number new count).db item
    by true is =
        let at : item.table.0 ≡ number = eqb-true _ _ is in
        agree_from_same db (stored db number new count).db refl item (rw (at, here) (same at))
    by false is =
        let off : item.table.0 ≢ number = eqb-false _ _ is in
        let stays : rows_at db.rows item.table.0 ≡ rows_at (slice_set db.rows number new) item.table.0 = sym (get_or-set_other db.rows number item.table.0 new [] off) in
        agree_from_same db (stored db number new count).db refl item (same_from_rows db.schema item.table.0 item.key stays)
