-- The rows of all tables, as a transaction changes them.
use Rattle.std.proofs.Common.{◌≡◌, refl, sym, ◌∙◌, ap, subst, ℕ, zero, suc, ◌+◌, ◌<◌, List, [], ◌∷◌, length}
use Rattle.std.specs.Prelude.{Some, None, filter, slice_get}
use Rattle.std.specs.Option.{option_map_or}
use Rattle.own_base.specs.Key.{key_cmp}
use Rattle.own_base.specs.declared.change.Change.{Change}
use Rattle.own_base.specs.declared.row_name.RowName.{RowName}
use Rattle.own_model.specs.declared.schema.Schema.{Schema}
use Rattle.own_model.specs.declared.schema.TableDef.{TableDef}
use Rattle.own_model.specs.Db.{AreRising, Row, key_of}
use Rattle.own_model.specs.Stored.{row_named, rows_at}
use Rattle.page_model.specs.Changed.{AreKeyed, with_changes}
use Rattle.page_model.specs.Found.{found}
use Rattle.page_model.specs.Rising.{IsRising}
use Rattle.schema_model.proofs.Places.{at-place}
use Rattle.state_model.specs.Put.{changed_key, is_of_table, put_from, row_after, rows_put}
use Rattle.state_model.proofs.PutRows.{named_in}
use Rattle.txn_space.specs.declared.entry.Entry.{Entry}
use Rattle.txn_space.specs.Changed.{changed_from, changed_rows, rows_with}
use Rattle.txn_space.specs.Entries.{entries_at, entry_key, entry_row}
use Rattle.txn_space.specs.HasPut.{entries_put}
use Rattle.txn_space.specs.Sound.{IsBase, IsSpaceOf}
pub use Rattle.txn_space.specs.ChangedRise.{changed_rise, from_none, next, same}
use Rattle.txn_space.proofs.PutLemmas.{entries_more, row_of}

-- no entry changes nothing
pub changed_none : (number : ℕ) (tables : List TableDef) (rows : List (List Row)) → AreRising tables rows → changed_from number tables rows [] ≡ rows
unfolding changed_from with_changes
changed_none number [] [] rising = refl
changed_none number [] (one ∷ rows) rising = absurd rising
changed_none number (table ∷ tables) [] rising = absurd rising
changed_none number (table ∷ tables) (one ∷ rows) rising = ap (λ rest. one ∷ rest) (changed_none (number + 1) tables rows rising.1)

-- a table's rows are those of the base with its entries
rows_from : (number : ℕ) (tables : List TableDef) (rows : List (List Row)) (space : List (List Entry)) (place : ℕ) (table : TableDef) → AreRising tables rows → slice_get tables place ≡ Some table
    → rows_at (changed_from number tables rows space) place ≡ rows_with table (entries_at space (number + place)) (rows_at rows place)
unfolding changed_from
rows_from number [] rows space place table rising is = cc
rows_from number (first ∷ tables) [] space place table rising is = absurd rising
rows_from number (first ∷ tables) (one ∷ rows) space zero table rising is =
    let this : first ≡ table = cc in
    ap (λ t. rows_with t (entries_at space number) one) this ∙ ap (λ n. rows_with table (entries_at space n) one) (sym (same number))
rows_from number (first ∷ tables) (one ∷ rows) space (suc place) table rising is =
    rows_from (number + 1) tables rows space place table rising.1 is ∙ ap (λ n. rows_with table (entries_at space n) (rows_at rows place)) (next number place)

pub rows_of_table : (tables : List TableDef) (rows : List (List Row)) (space : List (List Entry)) (place : ℕ) (table : TableDef) → AreRising tables rows → slice_get tables place ≡ Some table
    → rows_at (changed_rows tables rows space) place ≡ rows_with table (entries_at space place) (rows_at rows place)
rows_of_table tables rows space place table rising is =
    rows_from 0 tables rows space place table rising is ∙ ap (λ n. rows_with table (entries_at space n) (rows_at rows place)) (from_none place)

-- those of a table without entries are the base's
pub rows_of_other : (tables : List TableDef) (rows : List (List Row)) (space : List (List Entry)) (place : ℕ) → AreRising tables rows → place < length tables → entries_at space place ≡ []
    → rows_at (changed_rows tables rows space) place ≡ rows_at rows place
unfolding with_changes
rows_of_other tables rows space place rising within none =
    let found = at-place tables place within in
    rows_of_table tables rows space place found.0 rising found.1 ∙ ap (λ es. rows_with found.0 es (rows_at rows place)) none

-- after changes of the entries the rows are those before, with the changes
put_rows_from : (number : ℕ) (tables : List TableDef) (rows : List (List Row)) (changes : List Change) (before after : List (List Entry)) → AreRising tables rows
    → ((n : ℕ) → entries_at after n ≡ entries_put n changes (entries_at before n)) → ((n : ℕ) → IsRising entry_key key_cmp (entries_at before n))
    → ((place : ℕ) (table : TableDef) → slice_get tables place ≡ Some table → AreKeyed (key_of table) entry_key entry_row (entries_at before (number + place)))
    → ((place : ℕ) (table : TableDef) → slice_get tables place ≡ Some table → AreKeyed (key_of table) changed_key row_after (filter (is_of_table (number + place)) changes))
    → changed_from number tables rows after ≡ put_from number tables changes (changed_from number tables rows before)
unfolding changed_from put_from
put_rows_from number [] rows changes before after rising puts rises keyed changes_keyed = refl
put_rows_from number (table ∷ tables) [] changes before after rising puts rises keyed changes_keyed = absurd rising
put_rows_from number (table ∷ tables) (one ∷ rows) changes before after rising puts rises keyed changes_keyed =
    let here : rows_with table (entries_at after number) one ≡ rows_put number table changes (rows_with table (entries_at before number) one) =
    ap (λ es. rows_with table es one) (puts number)
    ∙ entries_more table (filter (is_of_table number) changes) (entries_at before number) one
    (subst (λ n. AreKeyed (key_of table) changed_key row_after (filter (is_of_table n) changes)) (same number) (changes_keyed 0 table refl)) (rises number)
    (subst (λ n. AreKeyed (key_of table) entry_key entry_row (entries_at before n)) (same number) (keyed 0 table refl)) rising.0 in
    let others = put_rows_from (number + 1) tables rows changes before after rising.1 puts rises
    (λ place other is. subst (λ n. AreKeyed (key_of other) entry_key entry_row (entries_at before n)) (sym (next number place)) (keyed (suc place) other is))
    (λ place other is. subst (λ n. AreKeyed (key_of other) changed_key row_after (filter (is_of_table n) changes)) (sym (next number place)) (changes_keyed (suc place) other is)) in
    ap (λ xs. xs ∷ changed_from (number + 1) tables rows after) here ∙ ap (λ rest. rows_put number table changes (rows_with table (entries_at before number) one) ∷ rest) others

pub put_changes : (tables : List TableDef) (rows : List (List Row)) (changes : List Change) (before after : List (List Entry)) → IsBase tables rows → IsSpaceOf tables before
    → ((n : ℕ) → entries_at after n ≡ entries_put n changes (entries_at before n))
    → ((place : ℕ) (table : TableDef) → slice_get tables place ≡ Some table → AreKeyed (key_of table) changed_key row_after (filter (is_of_table place) changes))
    → changed_rows tables rows after ≡ put_from 0 tables changes (changed_rows tables rows before)
put_changes tables rows changes before after base sound puts changes_keyed =
    put_rows_from 0 tables rows changes before after base.rising puts sound.rising
    (λ place table is. subst (λ n. AreKeyed (key_of table) entry_key entry_row (entries_at before n)) (sym (from_none place)) (sound.keyed place table is))
    (λ place table is. subst (λ n. AreKeyed (key_of table) changed_key row_after (filter (is_of_table n) changes)) (sym (from_none place)) (changes_keyed place table is))

-- the row of a name is the one that the entry of its key puts, else the base's
pub named_changed : (schema : Schema) (rows : List (List Row)) (space : List (List Entry)) (name : RowName) → IsBase schema.tables rows → IsSpaceOf schema.tables space → name.table.0 < length schema.tables
    → row_named schema (changed_rows schema.tables rows space) name ≡ option_map_or entry_row (found entry_key key_cmp name.key (entries_at space name.table.0)) (row_named schema rows name)
named_changed schema rows space name base sound within =
    let there = at-place schema.tables name.table.0 within in
    named_in schema (changed_rows schema.tables rows space) name there.0 there.1
    ∙ (ap (found (key_of there.0) key_cmp name.key) (rows_of_table schema.tables rows space name.table.0 there.0 base.rising there.1)
    ∙ (row_of there.0 name.key (entries_at space name.table.0) (rows_at rows name.table.0) (sound.rising name.table.0) (sound.keyed name.table.0 there.0 there.1)
    ∙ ap (option_map_or entry_row (found entry_key key_cmp name.key (entries_at space name.table.0))) (sym (named_in schema rows name there.0 there.1))))

module _ (schema : Schema) (rows : List (List Row)) (space : List (List Entry)) (name : RowName) (base : IsBase schema.tables rows) (sound : IsSpaceOf schema.tables space) (within : name.table.0 < length schema.tables) where
  pub named_alone : entries_at space name.table.0 ≡ [] → row_named schema (changed_rows schema.tables rows space) name ≡ row_named schema rows name
  unfolding found
  named_alone none = named_changed schema rows space name base sound within ∙ ap (λ es. option_map_or entry_row (found entry_key key_cmp name.key es) (row_named schema rows name)) none

  pub named_unchanged : (entries : List Entry) → entries ≡ entries_at space name.table.0 → found entry_key key_cmp name.key entries ≡ None → row_named schema (changed_rows schema.tables rows space) name ≡ row_named schema rows name
  named_unchanged entries here none =
      named_changed schema rows space name base sound within
      ∙ ap (λ one. option_map_or entry_row one (row_named schema rows name)) (ap (found entry_key key_cmp name.key) (sym here) ∙ none)

  pub named_entry : (entries : List Entry) (entry : Entry) → entries ≡ entries_at space name.table.0 → found entry_key key_cmp name.key entries ≡ Some entry → row_named schema (changed_rows schema.tables rows space) name ≡ entry_row entry
  named_entry entries entry here is =
      named_changed schema rows space name base sound within
      ∙ ap (λ one. option_map_or entry_row one (row_named schema rows name)) (ap (found entry_key key_cmp name.key) (sym here) ∙ is)
