-- The rows of a base after changes of a transaction's entries.
use Rattle.std.proofs.Common.{◌≡◌, refl, sym, ◌∙◌, ap, ◌<◌, List, [], ◌∷◌, length, map}
use Rattle.std.specs.Prelude.{Option, Some, None, Bool, true, false, cond, slice_get, IfSome, IsSomeAnd}
use Rattle.std.specs.List.{AllByRecursion as Each}
use Rattle.std.specs.Option.{option_map_or}
use Rattle.std.specs.Ordering.{is_eq}
use Rattle.std.proofs.lemmas.Option.{slice_get_within}
use Rattle.own_base.specs.Key.{key_cmp}
use Rattle.own_base.specs.declared.change.Change.{Change}
use Rattle.own_base.specs.declared.value.Key.{Key}
use Rattle.own_model.specs.declared.schema.TableDef.{TableDef}
use Rattle.own_model.specs.Db.{Row, key_of}
use Rattle.own_model.proofs.KeyOrder.{key_order}
use Rattle.page_model.specs.Changed.{AreKeyed, with_change, with_changes}
use Rattle.page_model.specs.Found.{found}
use Rattle.page_model.specs.Rising.{IsRising}
use Rattle.page_model.proofs.ChangedLemmas.{each_with_changes, rising_with_changes}
use Rattle.page_model.proofs.FoundChanged.{found_changed, found_with_changes}
use Rattle.page_model.proofs.InOrder.{rising_differ}
use Rattle.page_model.proofs.SameFound.{same_found}
use Rattle.state_model.specs.MayBePut.{IsPutIn}
use Rattle.state_model.specs.Put.{changed_key, row_after}
use Rattle.txn_space.specs.declared.entry.Entry.{Entry}
use Rattle.txn_space.specs.Changed.{rows_with}
use Rattle.txn_space.specs.Entries.{entry_key, entry_of, entry_row}

-- the entries with one more
abbrev and_entry : Entry → List Entry → List Entry
and_entry entry entries = with_change entry_key key_cmp (entry_key entry) (Some entry) entries

rising_entry : (entry : Entry) (entries : List Entry) → IsRising entry_key key_cmp entries → IsRising entry_key key_cmp (and_entry entry entries)
unfolding with_changes
rising_entry entry entries rising = rising_with_changes entry_key key_order entry_key (λ (e : Entry). Some e) (entry ∷ []) entries (refl, tt) rising

module _ (table : TableDef) where
  keyed_entry : (entry : Entry) (entries : List Entry) → IfSome (entry_row entry) (λ row. key_of table row ≡ entry_key entry) → AreKeyed (key_of table) entry_key entry_row entries → AreKeyed (key_of table) entry_key entry_row (and_entry entry entries)
  unfolding with_changes
  keyed_entry entry entries keyed all =
      each_with_changes entry_key key_order entry_key (λ (e : Entry). Some e) (λ e. IfSome (entry_row e) (λ row. key_of table row ≡ entry_key e)) (entry ∷ []) entries all (keyed, tt)

  -- a key's row, by its entry or the base
  pub row_of : (key : Key) (entries : List Entry) (rows : List Row) → IsRising entry_key key_cmp entries → AreKeyed (key_of table) entry_key entry_row entries
      → found (key_of table) key_cmp key (rows_with table entries rows) ≡ option_map_or entry_row (found entry_key key_cmp key entries) (found (key_of table) key_cmp key rows)
  unfolding found
  row_of key entries rows rising keyed = found_with_changes (key_of table) key_order entry_key entry_row key entries rows keyed (rising_differ key_cmp (map entry_key entries) rising)

  by_entry : (b : Bool) (entry : Entry) (other : Option Entry) (row : Option Row) → option_map_or entry_row (cond b (Some entry) other) row ≡ cond b (entry_row entry) (option_map_or entry_row other row)
  by_entry true entry other row = refl
  by_entry false entry other row = refl

  -- one entry more puts its row among those that the others leave
  entry_more : (entry : Entry) (entries : List Entry) (rows : List Row) → IfSome (entry_row entry) (λ row. key_of table row ≡ entry_key entry) → IsRising entry_key key_cmp entries → AreKeyed (key_of table) entry_key entry_row entries → IsRising (key_of table) key_cmp rows
      → rows_with table (and_entry entry entries) rows ≡ with_change (key_of table) key_cmp (entry_key entry) (entry_row entry) (rows_with table entries rows)
  unfolding with_changes
  entry_more entry entries rows keyed rising all rises =
      let more = rising_entry entry entries rising in
      let keyed_more = keyed_entry entry entries keyed all in
      let left : IsRising (key_of table) key_cmp (rows_with table (and_entry entry entries) rows) = rising_with_changes (key_of table) key_order entry_key entry_row (and_entry entry entries) rows keyed_more rises in
      let right = rising_with_changes (key_of table) key_order entry_key entry_row (entry ∷ []) (rows_with table entries rows) (keyed, tt) (rising_with_changes (key_of table) key_order entry_key entry_row entries rows all rises) in
      same_found (key_of table) key_order (rows_with table (and_entry entry entries) rows) (with_change (key_of table) key_cmp (entry_key entry) (entry_row entry) (rows_with table entries rows)) left right
      (λ key. row_of key (and_entry entry entries) rows more keyed_more
      ∙ (ap (λ one. option_map_or entry_row one (found (key_of table) key_cmp key rows)) (found_changed entry_key key_order entry_key (λ (e : Entry). Some e) key (entry_key entry) (Some entry) entries refl)
      ∙ (by_entry (is_eq (key_cmp (entry_key entry) key)) entry (found entry_key key_cmp key entries) (found (key_of table) key_cmp key rows)
      ∙ (ap (cond (is_eq (key_cmp (entry_key entry) key)) (entry_row entry)) (sym (row_of key entries rows rising all))
      ∙ sym (found_changed (key_of table) key_order entry_key entry_row key (entry_key entry) (entry_row entry) (rows_with table entries rows) keyed)))))

  -- the same of changes, one after another
  pub entries_more : (changes : List Change) (entries : List Entry) (rows : List Row) → AreKeyed (key_of table) changed_key row_after changes → IsRising entry_key key_cmp entries → AreKeyed (key_of table) entry_key entry_row entries → IsRising (key_of table) key_cmp rows
      → rows_with table (with_changes entry_key key_cmp changed_key (λ change. Some (entry_of change)) changes entries) rows ≡ with_changes (key_of table) key_cmp changed_key row_after changes (rows_with table entries rows)
  unfolding with_changes
  entries_more [] entries rows keyed rising all rises = refl
  entries_more (change ∷ changes) entries rows keyed rising all rises =
      entries_more changes (and_entry (entry_of change) entries) rows keyed.1 (rising_entry (entry_of change) entries rising) (keyed_entry (entry_of change) entries keyed.0 all) rises
      ∙ ap (with_changes (key_of table) key_cmp changed_key row_after changes) (entry_more (entry_of change) entries rows keyed.0 rising all rises)

  -- the rows that entries put have their keys afterwards
  pub keyed_more : (changes : List Change) (entries : List Entry) → AreKeyed (key_of table) changed_key row_after changes → AreKeyed (key_of table) entry_key entry_row entries
      → AreKeyed (key_of table) entry_key entry_row (with_changes entry_key key_cmp changed_key (λ change. Some (entry_of change)) changes entries)
  keyed_more changes entries keyed all =
      each_with_changes entry_key key_order changed_key (λ change. Some (entry_of change)) (λ e. IfSome (entry_row e) (λ row. key_of table row ≡ entry_key e)) changes entries all keyed

-- entries rise afterwards
pub rising_more : (changes : List Change) (entries : List Entry) → IsRising entry_key key_cmp entries → IsRising entry_key key_cmp (with_changes entry_key key_cmp changed_key (λ change. Some (entry_of change)) changes entries)
rising_more changes entries rising = rising_with_changes entry_key key_order changed_key (λ change. Some (entry_of change)) changes entries (each_refl changes) rising
  where
    each_refl : (cs : List Change) → Each (λ change. change.name.key ≡ change.name.key) cs
    each_refl [] = tt
    each_refl (c ∷ cs) = (refl, each_refl cs)

-- a table of a change is there
pub changes_there : (tables : List TableDef) (changes : List Change) → Each (IsPutIn tables) changes → Each (λ change. change.name.table.0 < length tables) changes
changes_there tables [] all = tt
changes_there tables (change ∷ changes) all = (by (slice_get tables change.name.table.0) refl all.0, changes_there tables changes all.1)
  where
    by : (o : Option TableDef) → slice_get tables change.name.table.0 ≡ o → IsSomeAnd o (λ t. IfSome change.after (λ row. key_of t row ≡ change.name.key)) → change.name.table.0 < length tables
    by None is none = absurd none
    by (Some table) is some = slice_get_within tables change.name.table.0 table is
