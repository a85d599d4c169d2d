-- The rows of a table that are held, by rising key: what is found under a key, and one place or hold more.
use Rattle.std.proofs.Common.{◌≡◌, ℕ, List, [], ◌∷◌, ◌++◌, Bool, true, false, cond, Some, None, Option, Ordering, refl, sym, ap, ◌∙◌, subst, ◌||◌}
use Rattle.std.specs.Prelude.{◌&&◌}
use Rattle.std.specs.declared.cmp.Ordering.TheVariants.{Less, Equal, Greater}
use Rattle.std.specs.BTreeMap.{insert_entry, is_at}
use Rattle.std.specs.List.{AllByRecursion as Each}
use Rattle.std.specs.List.Sorted.{IsStrictlySortedBy}
use Rattle.std.specs.Map.{keys_of, lookup, set_value}
use Rattle.std.specs.Option.{is_some, option_map_or}
use Rattle.std.specs.Ordering.{is_eq, match_ordering, ordering_reverse}
use Rattle.std.proofs.Math.Bool.{and-false, or-false, or_assoc}
use Rattle.own_base.specs.Key.{key_cmp}
use Rattle.own_base.specs.contracts.value.KeyOrd.TheImpl as order
use Rattle.own_base.specs.declared.value.Key.{Key}
use Rattle.own_base.specs.declared.value.Key.TheVariants.{Int, Text}
use Rattle.own_model.specs.Stored.{is_equal}
use Rattle.own_model.proofs.KeyOrder.{key_order}
use Rattle.query_model.proofs.RowOfKey.{equal_from}
use Rattle.run_model.specs.Agree.{keys_meet}
use Rattle.run_model.proofs.Overlaps.{at_key}
use Rattle.row_locks.specs.declared.hold.Hold.{Hold}
use Rattle.row_locks.specs.declared.hold.Hold.TheVariants.{Free}
use Rattle.row_locks.specs.Hold.{blocks}
use Rattle.row_locks.proofs.TestLemmas.{joined}
use Rattle.row_locks.specs.Locks.{AreRising, Rows, has_row, held_item, row_items, rows_meet}

-- a key that one key is at tests as that one does
pub alike : (asked : Option Key) (key other : Key) → is_at (key_cmp key) other ≡ true → keys_meet asked (Some other) ≡ keys_meet asked (Some key)
alike None key other is = refl
alike (Some asked) key other is =
    let same : key_cmp other key ≡ Equal = equal_from _ (sym (at_key key other) ∙ is) in
    ap is_equal (key_order.congr other key asked same)

-- the order of keys, as a map takes it
module _ (order : Key → Key → Ordering) (same : (left right : Key) → order left right ≡ key_cmp left right) where
  pub insert_entry-is : (rows : Rows) (key : Key) (hold : Hold) → insert_entry order rows key hold ≡ insert_entry key_cmp rows key hold
  insert_entry-is [] key hold = refl
  insert_entry-is (row ∷ rows) key hold = rw (same key row.0, insert_entry-is rows key hold) refl

  pub lookup-is : (rows : Rows) (key : Key) → lookup (is_at (order key)) rows ≡ lookup (is_at (key_cmp key)) rows
  lookup-is [] key = refl
  lookup-is (row ∷ rows) key = rw (same key row.0, lookup-is rows key) refl

  pub set_value-is : (rows : Rows) (key : Key) (hold : Hold) → set_value (is_at (order key)) rows hold ≡ set_value (is_at (key_cmp key)) rows hold
  set_value-is [] key hold = refl
  set_value-is (row ∷ rows) key hold = rw (same key row.0, set_value-is rows key hold) refl

  above-is : (low : Key) (keys : List Key) → Each (λ other. order low other ≡ Less) keys → Each (λ other. key_cmp low other ≡ Less) keys
  above-is low [] all = tt
  above-is low (key ∷ keys) all = (sym (same low key) ∙ all.0, above-is low keys all.1)

  sorted-is : (keys : List Key) → IsStrictlySortedBy order keys → IsStrictlySortedBy key_cmp keys
  unfolding IsStrictlySortedBy
  sorted-is [] sorted = tt
  sorted-is (key ∷ keys) sorted = (above-is key keys sorted.0, sorted-is keys sorted.1)

  pub rising-is : (rows : Rows) → IsStrictlySortedBy order (keys_of rows) → AreRising rows
  rising-is rows sorted = sorted-is (keys_of rows) sorted

-- no row of a key below all
none_above : (key low : Key) (rows : Rows) (write : Bool) → is_equal (key_cmp low key) ≡ true → Each (λ other. key_cmp low other ≡ Less) (keys_of rows) → rows_meet rows (Some key) write ≡ false
none_above key low [] write is all = refl
none_above key low (row ∷ rows) write is all =
    let first : key_cmp row.0 key ≡ key_cmp row.0 low = key_order.antisymm row.0 key ∙ (ap ordering_reverse (sym (key_order.congr low key row.0 (equal_from _ is))) ∙ sym (key_order.antisymm row.0 low)) in
    let above : key_cmp row.0 low ≡ Greater = key_order.antisymm row.0 low ∙ ap ordering_reverse all.0 in
    let apart : is_equal (key_cmp row.0 key) ≡ false = ap is_equal (first ∙ above) in
    rw apart (none_above key low rows write is all.1)

-- under a key there is one row at most, and it alone is asked
pub found : (rows : Rows) (key : Key) (write : Bool) → AreRising rows → rows_meet rows (Some key) write ≡ option_map_or (λ hold. blocks hold write) (lookup (is_at (key_cmp key)) rows) false
unfolding IsStrictlySortedBy
found [] key write rising = refl
found (row ∷ rows) key write rising = by (is_equal (key_cmp row.0 key)) refl (found rows key write rising.1)
  where
    by : (b : Bool) → is_equal (key_cmp row.0 key) ≡ b → rows_meet rows (Some key) write ≡ option_map_or (λ hold. blocks hold write) (lookup (is_at (key_cmp key)) rows) false
        → rows_meet (row ∷ rows) (Some key) write ≡ option_map_or (λ hold. blocks hold write) (lookup (is_at (key_cmp key)) (row ∷ rows)) false
    by true is later = rw (at_key key row.0, is, none_above key row.0 rows write is rising.0) (or-false (blocks row.1 write))
    by false is later = rw (at_key key row.0, is) later

module _ (key : Key) where
  pub added-same : (table : ℕ) (rows : Rows) → lookup (is_at (key_cmp key)) rows ≡ None → row_items table (insert_entry key_cmp rows key Free) ≡ row_items table rows
  added-same table [] none = refl
  added-same table (row ∷ rows) none = by (key_cmp key row.0) none (added-same table rows)
    where
      by : (o : Ordering) → cond (is_eq o) (Some row.1) (lookup (is_at (key_cmp key)) rows) ≡ None
          → (lookup (is_at (key_cmp key)) rows ≡ None → row_items table (insert_entry key_cmp rows key Free) ≡ row_items table rows)
          → row_items table (match_ordering o ((key, Free) ∷ row ∷ rows) ((row.0, Free) ∷ rows) (row ∷ insert_entry key_cmp rows key Free)) ≡ row_items table (row ∷ rows)
      by Less none later = refl
      by Equal none later = cc
      by Greater none later = ap (λ items. held_item table (Some row.0) row.1 ++ items) (later none)

  pub added-meet : (asked : Option Key) (write : Bool) (rows : Rows) → lookup (is_at (key_cmp key)) rows ≡ None → rows_meet (insert_entry key_cmp rows key Free) asked write ≡ rows_meet rows asked write
  added-meet asked write [] none = rw (and-false (keys_meet asked (Some key))) refl
  added-meet asked write (row ∷ rows) none = by (key_cmp key row.0) none (added-meet asked write rows)
    where
      by : (o : Ordering) → cond (is_eq o) (Some row.1) (lookup (is_at (key_cmp key)) rows) ≡ None
          → (lookup (is_at (key_cmp key)) rows ≡ None → rows_meet (insert_entry key_cmp rows key Free) asked write ≡ rows_meet rows asked write)
          → rows_meet (match_ordering o ((key, Free) ∷ row ∷ rows) ((row.0, Free) ∷ rows) (row ∷ insert_entry key_cmp rows key Free)) asked write ≡ rows_meet (row ∷ rows) asked write
      by Less none later = rw (and-false (keys_meet asked (Some key))) refl
      by Equal none later = cc
      by Greater none later = ap (λ rest. (keys_meet asked (Some row.0) && blocks row.1 write) || rest) (later none)

-- what a look-up finds after one is still there
pub still_there : (before after : Option Hold) (b : Bool) (own : Hold) → after ≡ cond b (Some own) before → is_some before ≡ true → is_some after ≡ true
still_there before after true own is there = rw is refl
still_there before after false own is there = rw is there

module _ (key : Key) (new : Hold) where
  pub held-more : (asked : Option Key) (asked_write more : Bool) (hold : Hold) (rows : Rows) → lookup (is_at (key_cmp key)) rows ≡ Some hold → blocks new asked_write ≡ (blocks hold asked_write || more)
      → rows_meet (set_value (is_at (key_cmp key)) rows new) asked asked_write ≡ (rows_meet rows asked asked_write || (keys_meet asked (Some key) && more))
  held-more asked asked_write more hold [] is stronger = cc
  held-more asked asked_write more hold (row ∷ rows) is stronger = by (is_at (key_cmp key) row.0) refl is (held-more asked asked_write more hold rows)
    where
      by : (b : Bool) → is_at (key_cmp key) row.0 ≡ b → cond b (Some row.1) (lookup (is_at (key_cmp key)) rows) ≡ Some hold
          → (lookup (is_at (key_cmp key)) rows ≡ Some hold → blocks new asked_write ≡ (blocks hold asked_write || more)
          → rows_meet (set_value (is_at (key_cmp key)) rows new) asked asked_write ≡ (rows_meet rows asked asked_write || (keys_meet asked (Some key) && more)))
          → rows_meet (cond b ((row.0, new) ∷ rows) (row ∷ set_value (is_at (key_cmp key)) rows new)) asked asked_write ≡ (rows_meet (row ∷ rows) asked asked_write || (keys_meet asked (Some key) && more))
      by true here is later =
          let same : row.1 ≡ hold = cc in
          let own : blocks new asked_write ≡ (blocks row.1 asked_write || more) = rw same stronger in
          rw (own, alike asked key row.0 here) (joined (keys_meet asked (Some key)) (blocks row.1 asked_write) more (rows_meet rows asked asked_write))
      by false other is later =
          rw (later is stronger) (sym (or_assoc (keys_meet asked (Some row.0) && blocks row.1 asked_write) (rows_meet rows asked asked_write) (keys_meet asked (Some key) && more)))

  pub held-places : (other : Key) (rows : Rows) → has_row (set_value (is_at (key_cmp key)) rows new) other ≡ has_row rows other
  held-places other [] = refl
  held-places other (row ∷ rows) = by (is_at (key_cmp key) row.0) (held-places other rows)
    where
      either : (b : Bool) (left right : Option Hold) → is_some left ≡ is_some right → (old : Hold) → is_some (cond b (Some old) left) ≡ is_some (cond b (Some old) right)
      either true left right same old = refl
      either false left right same old = same

      one : (b : Bool) (rest : Option Hold) → is_some (cond b (Some new) rest) ≡ is_some (cond b (Some row.1) rest)
      one true rest = refl
      one false rest = refl

      by : (b : Bool) → has_row (set_value (is_at (key_cmp key)) rows new) other ≡ has_row rows other
          → has_row (cond b ((row.0, new) ∷ rows) (row ∷ set_value (is_at (key_cmp key)) rows new)) other ≡ has_row (row ∷ rows) other
      by true later = one (is_at (key_cmp other) row.0) (lookup (is_at (key_cmp other)) rows)
      by false later = either (is_at (key_cmp other) row.0) (lookup (is_at (key_cmp other)) (set_value (is_at (key_cmp key)) rows new)) (lookup (is_at (key_cmp other)) rows) later row.1

-- the order that keys derive is theirs
abbrev pub derived : Key → Key → Ordering
derived = order.ghosts.cmp

derived-is : (left right : Key) → derived left right ≡ key_cmp left right
derived-is (Int left) (Int right) = refl
derived-is (Int left) (Text right) = refl
derived-is (Text left) (Int right) = refl
derived-is (Text left) (Text right) = refl

pub derived_rising : (rows : Rows) → IsStrictlySortedBy derived (keys_of rows) → AreRising rows
derived_rising rows sorted = rising-is derived derived-is rows sorted

-- what a look-up of the map tells
pub looked_up : (rows : Rows) (key : Key) (write : Bool) (hold : Option Hold) → AreRising rows → hold ≡ lookup (is_at (derived key)) rows
    → rows_meet rows (Some key) write ≡ option_map_or (λ one. blocks one write) hold false
looked_up rows key write hold rising is =
    found rows key write rising ∙ ap (λ one. option_map_or (λ one. blocks one write) one false) (sym (is ∙ lookup-is derived derived-is rows key))

none_there : (hold : Option Hold) → is_some hold ≡ false → hold ≡ None
none_there None is = refl
none_there (Some hold) is = cc

-- a place more, put into the map under a copy of a key that it lacks
pub record IsPlaced (before after : Rows) : Type 0 where
  pub same : (table : ℕ) → row_items table after ≡ row_items table before
  pub meet : (asked : Option Key) (write : Bool) → rows_meet after asked write ≡ rows_meet before asked write
  pub places : (other : Key) → has_row before other ≡ true → has_row after other ≡ true

pub placed : (before after : Rows) (key copy : Key) → copy ≡ key → is_some (lookup (is_at (derived key)) before) ≡ false → after ≡ insert_entry derived before copy Free
    → ((other : Key) → lookup (is_at (derived other)) after ≡ cond (is_at (derived copy) other) (Some Free) (lookup (is_at (derived other)) before)) → IsPlaced before after
placed before after key copy equal lacks put finds =
    let none : lookup (is_at (key_cmp copy)) before ≡ None =
    subst (λ one. lookup (is_at (key_cmp one)) before ≡ None) (sym equal) (sym (lookup-is derived derived-is before key) ∙ none_there _ lacks) in
    let own : after ≡ insert_entry key_cmp before copy Free = put ∙ insert_entry-is derived derived-is before copy Free in
    record {
      same = λ table. ap (row_items table) own ∙ added-same copy table before none;
      meet = λ asked write. ap (λ rows. rows_meet rows asked write) own ∙ added-meet copy asked write before none;
      places = λ other there.
          ap is_some (sym (lookup-is derived derived-is after other))
          ∙ still_there (lookup (is_at (derived other)) before) (lookup (is_at (derived other)) after) (is_at (derived copy) other) Free (finds other) (ap is_some (lookup-is derived derived-is before other) ∙ there);
    }

-- a row that is held more strongly through the map
pub strengthened : (before after : Rows) (key : Key) (hold new : Hold) (write : Bool) → Some hold ≡ lookup (is_at (derived key)) before → after ≡ set_value (is_at (derived key)) before new
    → ((asked : Bool) → blocks new asked ≡ (blocks hold asked || (asked || write))) → (asked : Option Key) (asked_write : Bool)
    → rows_meet after asked asked_write ≡ (rows_meet before asked asked_write || (keys_meet asked (Some key) && (asked_write || write)))
strengthened before after key hold new write is set stronger asked asked_write =
    ap (λ rows. rows_meet rows asked asked_write) (set ∙ set_value-is derived derived-is before key new)
    ∙ held-more key new asked asked_write (asked_write || write) hold before (sym (is ∙ lookup-is derived derived-is before key)) (stronger asked_write)

pub strengthened_places : (before after : Rows) (key : Key) (new : Hold) → after ≡ set_value (is_at (derived key)) before new → (other : Key) → has_row after other ≡ has_row before other
strengthened_places before after key new set other = ap (λ rows. has_row rows other) (set ∙ set_value-is derived derived-is before key new) ∙ held-places key new other before
