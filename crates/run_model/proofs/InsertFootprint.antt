-- The footprint of an INSERT: its reply and what it writes depend on the rows of its items, and it writes no others.
use Rattle.std.proofs.Common.{◌≡◌, ℕ, ◌==◌, ◌&&◌, List, [], ◌∷◌, true, false, map, Option, Some, None, length, refl, sym, ap, ◌∙◌, subst}
use Rattle.std.specs.Prelude.{Result, Ok, Err, slice_get}
use Rattle.std.specs.declared.cmp.Ordering.TheVariants.{Equal}
use Rattle.std.specs.List.{AllByRecursion as Each, list_any}
use Rattle.own_base.specs.Key.{key_cmp}
use Rattle.own_base.specs.declared.number.TableNo.{TableNo}
use Rattle.own_base.specs.declared.value.Key.{Key}
use Rattle.page_model.proofs.RisingLemmas.{each_map, each_weaker}
use Rattle.own_model.specs.declared.footprint.FootItem.{FootItem}
use Rattle.own_model.specs.declared.schema.TableDef.{TableDef}
use Rattle.own_model.specs.Db.{Db, Row, key_of}
use Rattle.own_model.specs.Stored.{has_key, rows_at}
use Rattle.query_model.specs.Footprints.{item, keys_of}
use Rattle.run_model.specs.Agree.{AgreeOn, keys_meet, overlaps}
use Rattle.run_model.specs.Insert.{with_tuples}
use Rattle.run_model.specs.Run.{insert, insert_into, put}
use Rattle.run_model.proofs.FoundRows.{find_agree, has_tied_key}
use Rattle.run_model.proofs.InsertItems.{each_row}
use Rattle.run_model.proofs.InsertLookups.{AreAlike, IsSameAt, IsStill, alike-with_tuples, still-with_tuples}
use Rattle.run_model.proofs.Overlaps.{apart_key, named_key, none_passes, tied_meet}
use Rattle.run_model.proofs.TableRows.{AreInPlace, AreSame, agree-stored, agree_from_same, agree_itself, one_found, rows_put, same_from_agree, still-stored}

-- the items of an INSERT
abbrev pub insert_items : Db → TableNo → List Row → List FootItem
insert_items db number tuples = map (λ key. item number (Some key) true) (keys_of db.schema number tuples)

-- what holds of its items holds of the item of each tuple's key
by_tuple : (P : FootItem → Type 0) (db : Db) (number : TableNo) (tuples : List Row)
    → ((key other : Key) → key_cmp key other ≡ Equal → P (item number (Some other) true) → P (item number (Some key) true))
    → (table : TableDef) → slice_get db.schema.tables number.0 ≡ Some table → Each P (insert_items db number tuples)
    → Each (λ tuple. P (item number (Some (key_of table tuple)) true)) tuples
by_tuple P db number tuples shared table is all =
    each_row (λ key. P (item number (Some key) true)) shared table tuples (rw is at (each_map P (λ key. item number (Some key) true) (keys_of db.schema number tuples) all))

module _ (db other : Db) (schema : db.schema ≡ other.schema) where
  -- rows of tied keys are the same or not
  tied_agree : (number : TableNo) (key tie : Key) → key_cmp key tie ≡ Equal → AgreeOn db other (item number (Some tie) true) → AgreeOn db other (item number (Some key) true)
  tied_agree number key tie tied agree =
      agree_from_same db other schema (item number (Some key) true) (λ table is.
      find_agree (has_key table key) (has_key table tie) (has_tied_key table key tie tied) (rows_at db.rows number.0)
      ∙ (same_from_agree db other schema (item number (Some tie) true) agree table is
      ∙ sym (find_agree (has_key table key) (has_key table tie) (has_tied_key table key tie tied) (rows_at other.rows number.0))))

  module _ (place : AreInPlace db) (places : AreInPlace other) (number : TableNo) (tuples : List Row) (agree : Each (AgreeOn db other) (insert_items db number tuples)) where
    -- so the tuples' rows are
    alike : (table : TableDef) → slice_get db.schema.tables number.0 ≡ Some table
        → AreAlike table (IsSameAt table (rows_at db.rows number.0) (rows_at other.rows number.0))
        (with_tuples table (rows_at db.rows number.0) tuples) (with_tuples table (rows_at other.rows number.0) tuples)
    alike table is =
        alike-with_tuples table (rows_at db.rows number.0) (rows_at other.rows number.0) tuples
        (each_weaker (λ tuple. AgreeOn db other (item number (Some (key_of table tuple)) true))
        (λ tuple. IsSameAt table (rows_at db.rows number.0) (rows_at other.rows number.0) (key_of table tuple))
        (λ tuple agree. same_from_agree db other schema (item number (Some (key_of table tuple)) true) agree table is) tuples
        (by_tuple (AgreeOn db other) db number tuples (tied_agree number) table is agree))

    reply_put : (table : TableDef) (P : Key → Type 0) (count : ℕ) (r s : Result (List Row) Key) → AreAlike table P r s
        → (put db number.0 table count r).reply ≡ (put other number.0 table count s).reply
    reply_put table P count (Ok rows) (Ok others) same = refl
    reply_put table P count (Err key) (Err tie) same = rw same refl
    reply_put table P count (Ok rows) (Err key) same = absurd same
    reply_put table P count (Err key) (Ok rows) same = absurd same

    reply_insert : (found : Option TableDef) → slice_get db.schema.tables number.0 ≡ found
        → (insert_into db number.0 tuples found).reply ≡ (insert_into other number.0 tuples found).reply
    reply_insert None is = refl
    reply_insert (Some table) is = reply_put table _ (length tuples) _ _ (alike table is)

    -- the reply is the same
    pub same_reply-insert : (insert db number.0 tuples).reply ≡ (insert other number.0 tuples).reply
    unfolding insert
    same_reply-insert =
        subst (λ tables. (insert db number.0 tuples).reply ≡ (insert_into other number.0 tuples (slice_get tables number.0)).reply)
        (ap (λ schema. schema.tables) schema) (reply_insert _ refl)

    agree_put : (table : TableDef) (count : ℕ) → slice_get db.schema.tables number.0 ≡ Some table → (r s : Result (List Row) Key)
        → AreAlike table (IsSameAt table (rows_at db.rows number.0) (rows_at other.rows number.0)) r s
        → (rows_at db.rows number.0 ≡ rows_at other.rows number.0 → r ≡ s)
        → (own : FootItem) → AgreeOn db other own → AgreeOn (put db number.0 table count r).db (put other number.0 table count s).db own
    agree_put table count is (Ok new) (Ok news) same whole =
        agree-stored db other schema number.0 new news count count (rows_put db.schema.tables db.rows number.0 table new place.ordered.rising is)
        (rows_put other.schema.tables other.rows number.0 table news places.ordered.rising (rw (← schema) is)) by
      where
        by : (key : Option Key) → AreSame db.schema number.0 key (rows_at db.rows number.0) (rows_at other.rows number.0) → AreSame db.schema number.0 key new news
        by None before = let both : ◌≡◌ {A = Result (List Row) Key} (Ok new) (Ok news) = whole before in cc
        by (Some key) before = λ found also.
            let one : table ≡ found = one_found table found is also in
            subst (λ table. IsSameAt table new news key) one (same key (before table is))
    agree_put table count is (Err key) (Err tie) same whole = λ own agree. agree
    agree_put table count is (Ok rows) (Err key) same whole = absurd same
    agree_put table count is (Err key) (Ok rows) same whole = absurd same

    agree_insert : (own : FootItem) → AgreeOn db other own → (found : Option TableDef) → slice_get db.schema.tables number.0 ≡ found
        → AgreeOn (insert_into db number.0 tuples found).db (insert_into other number.0 tuples found).db own
    agree_insert own agree None is = agree
    agree_insert own agree (Some table) is =
        agree_put table (length tuples) is (with_tuples table (rows_at db.rows number.0) tuples) (with_tuples table (rows_at other.rows number.0) tuples) (alike table is)
        (λ same. ap (λ rows. with_tuples table rows tuples) same) own agree

    -- an item on which they agree stays one
    pub same_left-insert : (own : FootItem) → AgreeOn db other own → AgreeOn (insert db number.0 tuples).db (insert other number.0 tuples).db own
    unfolding insert
    same_left-insert own agree =
        subst (λ tables. AgreeOn (insert db number.0 tuples).db (insert_into other number.0 tuples (slice_get tables number.0)).db own)
        (ap (λ schema. schema.tables) schema) (agree_insert own agree _ refl)

-- An item that no item of the INSERT overlaps.
module _ (db : Db) (place : AreInPlace db) (number : TableNo) (tuples : List Row) (other : FootItem)
    (apart : list_any (λ own. overlaps own other) (insert_items db number tuples) ≡ false) where
  -- tied keys meet the same items
  tied_apart : (key tie : Key) → key_cmp key tie ≡ Equal → overlaps (item number (Some tie) true) other ≡ false → overlaps (item number (Some key) true) other ≡ false
  tied_apart key tie tied apart = ap (λ meets. (number.0 == other.table.0 && meets) && true) (tied_meet key tie tied other.key) ∙ apart

  apart_tuples : (table : TableDef) → slice_get db.schema.tables number.0 ≡ Some table → other.table.0 ≡ number.0
      → Each (λ tuple. keys_meet (Some (key_of table tuple)) other.key ≡ false) tuples
  apart_tuples table is at =
      each_weaker (λ tuple. overlaps (item number (Some (key_of table tuple)) true) other ≡ false) (λ tuple. keys_meet (Some (key_of table tuple)) other.key ≡ false)
      (λ tuple apart. apart_key number (Some (key_of table tuple)) other apart at) tuples
      (by_tuple (λ own. overlaps own other ≡ false) db number tuples tied_apart table is (none_passes (λ own. overlaps own other) (insert_items db number tuples) apart))

  still_at : (table : TableDef) (key : Option Key) (tuples : List Row) → slice_get db.schema.tables number.0 ≡ Some table
      → Each (λ tuple. keys_meet (Some (key_of table tuple)) key ≡ false) tuples → (new : List Row) → with_tuples table (rows_at db.rows number.0) tuples ≡ Ok new
      → AreSame db.schema number.0 key (rows_at db.rows number.0) new
  unfolding with_tuples
  still_at table None [] is apart new taken = let both : ◌≡◌ {A = Result (List Row) Key} (Ok (rows_at db.rows number.0)) (Ok new) = taken in cc
  still_at table None (tuple ∷ tuples) is apart new taken = let never : true ≡ false = apart.0 in cc
  still_at table (Some key) tuples is apart new taken = λ found also.
      let one : table ≡ found = one_found table found is also in
      let still = still-with_tuples table (rows_at db.rows number.0) key tuples
      (each_weaker (λ tuple. keys_meet (Some (key_of table tuple)) (Some key) ≡ false) (λ tuple. has_key table key tuple ≡ false)
      (λ tuple apart. named_key table key tuple ∙ apart) tuples apart) in
      subst (λ table. IsSameAt table (rows_at db.rows number.0) new key) one (subst (IsStill table (rows_at db.rows number.0) key) taken still)

  still_put : (table : TableDef) (count : ℕ) → slice_get db.schema.tables number.0 ≡ Some table → (r : Result (List Row) Key)
      → (other.table.0 ≡ number.0 → (new : List Row) → r ≡ Ok new → AreSame db.schema number.0 other.key (rows_at db.rows number.0) new)
      → AgreeOn db (put db number.0 table count r).db other
  still_put table count is (Ok new) same =
      still-stored db number.0 new count (rows_put db.schema.tables db.rows number.0 table new place.ordered.rising is) other (λ at. same at new refl)
  still_put table count is (Err key) same = agree_itself db other

  still_insert : (found : Option TableDef) → slice_get db.schema.tables number.0 ≡ found → AgreeOn db (insert_into db number.0 tuples found).db other
  still_insert None is = agree_itself db other
  still_insert (Some table) is = still_put table (length tuples) is _ (λ at. still_at table other.key tuples is (apart_tuples table is at))

  -- it stays as it was
  pub still-insert : AgreeOn db (insert db number.0 tuples).db other
  unfolding insert
  still-insert = still_insert _ refl
