-- The net of a transaction is read off its entries.
use Rattle.std.proofs.Common.{◌≡◌, refl, sym, ◌∙◌, ap, ℕ, suc, ◌+◌, ◌<◌, ◌≤◌, List, [], ◌∷◌, ◌++◌, length, drop, append-nil, append_assoc, filter_map, arith}
use Rattle.std.specs.Prelude.{true, Option, Some, None, find, slice_get}
use Rattle.std.specs.Option.{option_and_then, option_map_or, option_or}
use Rattle.std.specs.Ordering.{is_eq}
use Rattle.std.proofs.lemmas.List.{drop_all, drop_more}
use Rattle.std.proofs.lemmas.List.Folds.{find-append}
use Rattle.own_base.specs.Key.{key_cmp}
use Rattle.own_base.specs.declared.change.Change.{Change}
use Rattle.own_base.specs.declared.row_name.RowName.{RowName}
use Rattle.own_base.specs.declared.value.Key.{Key}
use Rattle.own_model.specs.declared.schema.Schema.{Schema}
use Rattle.own_model.specs.declared.schema.TableDef.{TableDef}
use Rattle.own_model.specs.Db.{Db, AreRising, Row, key_of}
use Rattle.own_model.specs.Stored.{has_key, rows_at}
use Rattle.own_model.proofs.KeyOrder.{key_order}
use Rattle.page_model.specs.Changed.{AreKeyed}
use Rattle.page_model.specs.Found.{found}
use Rattle.page_model.specs.Rising.{IsRising}
use Rattle.page_model.proofs.InOrder.{few_rise}
use Rattle.page_model.proofs.SameFound.{same_found}
use Rattle.state_model.specs.Net.{change_at, change_unless_same, keys_in, net, net_from, net_in}
use Rattle.state_model.specs.Put.{changed_key}
use Rattle.subject_model.proofs.NamedLemmas.{one_key}
use Rattle.state_model.proofs.KeysLemmas.{itself, keys_missing, keys_rise}
use Rattle.state_model.proofs.Made.{found_has, found_made, rising_made}
use Rattle.state_model.proofs.NetLeads.{named}
use Rattle.state_model.proofs.PutRows.{equal_is, found_key, named_in}
use Rattle.state_model.proofs.SameLemmas.{state_same}
use Rattle.state_model.proofs.TableOwners.{or_none}
use Rattle.txn_space.specs.declared.entry.Entry.{Entry}
use Rattle.txn_space.specs.Changed.{changed_db, changed_from, rows_with}
use Rattle.txn_space.specs.Entries.{entries_at, entry_key, entry_row}
use Rattle.txn_space.specs.EntryNet.{entry_change, entry_changes}
use Rattle.txn_space.specs.Sound.{IsBase, IsSpaceOf}
use Rattle.txn_space.proofs.OverLemmas.{from_none, next, same}
use Rattle.txn_space.proofs.PutLemmas.{row_of}

-- nothing becomes of what stays
unchanged : (name : RowName) (row : Option Row) → change_unless_same name row row ≡ None
unchanged name row = rw (state_same row) refl

module _ (number : ℕ) (table : TableDef) where
  row_at : (key : Key) (rows : List Row) → find (has_key table key) rows ≡ found (key_of table) key_cmp key rows
  row_at key rows = sym (found_key table key rows)

  -- what becomes of the row of an entry, by the rows of its table
  abbrev pub change_in : List Row → Entry → Option Change
  change_in rows entry = change_unless_same (record { table = record { 0 = number }; key = entry_key entry }) (found (key_of table) key_cmp (entry_key entry) rows) (entry_row entry)

  -- and of a key
  abbrev pub change_of : List Row → List Row → Key → Option Change
  change_of before after key = change_unless_same (record { table = record { 0 = number }; key = key }) (found (key_of table) key_cmp key before) (found (key_of table) key_cmp key after)

  found_both : (key : Key) (before after : List Row) → found (key_of table) key_cmp key (before ++ after) ≡ option_or (found (key_of table) key_cmp key before) (found (key_of table) key_cmp key after)
  unfolding found
  found_both key before after = find-append (λ row. is_eq (key_cmp (key_of table row) key)) before after

  change-is : (before after : List Row) (key : Key) → change_at number table before after key ≡ change_of before after key
  change-is before after key = rw (row_at key before, row_at key after) refl

  same_key : (one other : Key) → is_eq (key_cmp one other) ≡ true → one ≡ other
  same_key one other is = one_key one other (sym (equal_is (key_cmp one other)) ∙ is)

  -- a key's change, among those of the rows
  net_found : (before after : List Row) (key : Key) → found changed_key key_cmp key (net_in number table before after) ≡ change_of before after key
  net_found before after key =
      found_made itself changed_key (change_at number table before after) (λ k. named _ _ _) key (keys_in table (before ++ after)) (keys_rise table (before ++ after) [] (few_rise key_cmp [] (omega arith)))
      ∙ (by (found itself key_cmp key (keys_in table (before ++ after))) refl ∙ change-is before after key)
    where
      none : found itself key_cmp key (keys_in table (before ++ after)) ≡ None → change_at number table before after key ≡ None
      none missing =
          let parts = or_none (found (key_of table) key_cmp key before) (found (key_of table) key_cmp key after) (sym (found_both key before after) ∙ (keys_missing table key (before ++ after) [] missing).1) in
          change-is before after key ∙ rw (parts.0, parts.1) refl

      by : (o : Option Key) → found itself key_cmp key (keys_in table (before ++ after)) ≡ o → option_and_then (change_at number table before after) o ≡ change_at number table before after key
      by None missing = sym (none missing)
      by (Some one) here = ap (change_at number table before after) (same_key one key (found_has itself key (keys_in table (before ++ after)) one here))

  -- and among those of entries
  pub entries_found : (before : List Row) (entries : List Entry) (key : Key) → IsRising entry_key key_cmp entries → AreKeyed (key_of table) entry_key entry_row entries
      → found changed_key key_cmp key (filter_map (change_in before) entries) ≡ change_of before (rows_with table entries before) key
  entries_found before entries key rising keyed =
      found_made entry_key changed_key (change_in before) (λ entry. named _ _ _) key entries rising
      ∙ by (found entry_key key_cmp key entries) refl
    where
      after_is : found (key_of table) key_cmp key (rows_with table entries before) ≡ option_map_or entry_row (found entry_key key_cmp key entries) (found (key_of table) key_cmp key before)
      after_is = row_of table key entries before rising keyed

      by : (o : Option Entry) → found entry_key key_cmp key entries ≡ o → option_and_then (change_in before) o ≡ change_of before (rows_with table entries before) key
      by None missing =
          let same : found (key_of table) key_cmp key (rows_with table entries before) ≡ found (key_of table) key_cmp key before = after_is ∙ ap (λ o. option_map_or entry_row o (found (key_of table) key_cmp key before)) missing in
          sym (ap (change_unless_same (record { table = record { 0 = number }; key = key }) (found (key_of table) key_cmp key before)) same ∙ unchanged _ _)
      by (Some entry) here =
          let now : found (key_of table) key_cmp key (rows_with table entries before) ≡ entry_row entry = after_is ∙ ap (λ o. option_map_or entry_row o (found (key_of table) key_cmp key before)) here in
          let this : entry_key entry ≡ key = same_key (entry_key entry) key (found_has entry_key key entries entry here) in
          ap (λ k. change_unless_same (record { table = record { 0 = number }; key = k }) (found (key_of table) key_cmp k before) (entry_row entry)) this
          ∙ ap (change_unless_same (record { table = record { 0 = number }; key = key }) (found (key_of table) key_cmp key before)) (sym now)

  -- the changes of a table's rows are those of its entries
  pub table_net : (before : List Row) (entries : List Entry) → IsRising entry_key key_cmp entries → AreKeyed (key_of table) entry_key entry_row entries
      → net_in number table before (rows_with table entries before) ≡ filter_map (change_in before) entries
  table_net before entries rising keyed =
      same_found changed_key key_order (net_in number table before (rows_with table entries before)) (filter_map (change_in before) entries)
      (rising_made itself changed_key (change_at number table before (rows_with table entries before)) (λ k. named _ _ _) (keys_in table (before ++ rows_with table entries before)) (keys_rise table (before ++ rows_with table entries before) [] (few_rise key_cmp [] (omega arith))))
      (rising_made entry_key changed_key (change_in before) (λ entry. named _ _ _) entries rising)
      (λ key. net_found before (rows_with table entries before) key ∙ sym (entries_found before entries key rising keyed))

pub filter_map_same : {X Y : Type 0} (f g : X → Option Y) → ((x : X) → f x ≡ g x) → (xs : List X) → filter_map f xs ≡ filter_map g xs
filter_map_same f g same [] = refl
filter_map_same f g same (x ∷ xs) = rw (same x, filter_map_same f g same xs) refl

module _ (schema : Schema) (rows : List (List Row)) (space : List (List Entry)) (sound : IsSpaceOf schema.tables space) where
  -- what becomes of the row of an entry, by its table
  pub by_table : (number : ℕ) (table : TableDef) (before : List Row) → slice_get schema.tables number ≡ Some table → before ≡ rows_at rows number → (entry : Entry) → change_in number table before entry ≡ entry_change schema rows (record { 0 = number }) entry
  by_table number table before is here entry =
      let name : RowName = record { table = record { 0 = number }; key = entry_key entry } in
      ap (λ row. change_unless_same name row (entry_row entry)) (ap (found (key_of table) key_cmp (entry_key entry)) here ∙ sym (named_in schema rows name table is))

  net_of : (number : ℕ) (tables : List TableDef) (befores : List (List Row)) (left : List (List Entry)) → AreRising tables befores → length left ≤ length tables
      → ((n : ℕ) → entries_at space (number + n) ≡ entries_at left n)
      → ((n : ℕ) (table : TableDef) → slice_get tables n ≡ Some table → slice_get schema.tables (number + n) ≡ Some table)
      → ((n : ℕ) → rows_at befores n ≡ rows_at rows (number + n))
      → net_from number tables befores (changed_from number tables befores space) ≡ entry_changes schema rows number left
  unfolding net_from changed_from entry_changes
  net_of number [] befores [] rising few here tables_are rows_are = refl
  net_of number [] befores (entries ∷ left) rising few here tables_are rows_are = absurd (omega arith)
  net_of number (table ∷ tables) [] left rising few here tables_are rows_are = absurd rising
  net_of number (table ∷ tables) (before ∷ befores) [] rising few here tables_are rows_are =
      let is : slice_get schema.tables number ≡ Some table = ap (slice_get schema.tables) (sym (same number)) ∙ tables_are 0 table refl in
      let none : entries_at space number ≡ [] = ap (entries_at space) (sym (same number)) ∙ here 0 in
      let first : net_in number table before (rows_with table (entries_at space number) before) ≡ [] =
      table_net number table before (entries_at space number) (sound.rising number) (sound.keyed number table is) ∙ ap (filter_map (change_in number table before)) none in
      let others = net_of (number + 1) tables befores [] rising.1 (omega arith) (λ n. ap (entries_at space) (next number n) ∙ here (suc n)) (λ n t found. ap (slice_get schema.tables) (next number n) ∙ tables_are (suc n) t found) (λ n. rows_are (suc n) ∙ ap (rows_at rows) (sym (next number n))) in
      ap (λ changes. changes ++ net_from (number + 1) tables befores (changed_from (number + 1) tables befores space)) first ∙ others
  net_of number (table ∷ tables) (before ∷ befores) (entries ∷ left) rising few here tables_are rows_are =
      let is : slice_get schema.tables number ≡ Some table = ap (slice_get schema.tables) (sym (same number)) ∙ tables_are 0 table refl in
      let own : entries_at space number ≡ entries = ap (entries_at space) (sym (same number)) ∙ here 0 in
      let rows_here : before ≡ rows_at rows number = rows_are 0 ∙ ap (rows_at rows) (same number) in
      let first : net_in number table before (rows_with table (entries_at space number) before) ≡ filter_map (entry_change schema rows (record { 0 = number })) entries =
      table_net number table before (entries_at space number) (sound.rising number) (sound.keyed number table is)
      ∙ (ap (filter_map (change_in number table before)) own ∙ filter_map_same _ _ (by_table number table before is rows_here) entries) in
      let others = net_of (number + 1) tables befores left rising.1 (omega arith) (λ n. ap (entries_at space) (next number n) ∙ here (suc n)) (λ n t found. ap (slice_get schema.tables) (next number n) ∙ tables_are (suc n) t found) (λ n. rows_are (suc n) ∙ ap (rows_at rows) (sym (next number n))) in
      ap (λ changes. changes ++ net_from (number + 1) tables befores (changed_from (number + 1) tables befores space)) first
      ∙ ap (λ changes. filter_map (entry_change schema rows (record { 0 = number })) entries ++ changes) others

-- the net between a base and its rows as changed
pub net_is : (db : Db) (space : List (List Entry)) → IsSpaceOf db.schema.tables space → IsBase db.schema.tables db.rows → net db (changed_db db space) ≡ entry_changes db.schema db.rows 0 space
unfolding net
net_is db space sound base =
    net_of db.schema db.rows space sound 0 db.schema.tables db.rows space base.rising sound.within (λ n. ap (entries_at space) (from_none n)) (λ n table found. ap (slice_get db.schema.tables) (from_none n) ∙ found)
    (λ n. ap (rows_at db.rows) (sym (from_none n)))

-- the changes of a table more
pub table_more : (schema : Schema) (rows : List (List Row)) (number : ℕ) (space : List (List Entry)) (entries : List Entry) (before all : List Change) → number < length space → entries ≡ entries_at space number
    → before ++ entry_changes schema rows number (drop number space) ≡ all
    → (before ++ filter_map (entry_change schema rows (record { 0 = number })) entries) ++ entry_changes schema rows (number + 1) (drop (number + 1) space) ≡ all
unfolding entry_changes
table_more schema rows number space entries before all within is so_far =
    let here : drop number space ≡ entries ∷ drop (number + 1) space = drop_more space number [] within ∙ ap (λ es. es ∷ drop (number + 1) space) (sym is) in
    append_assoc before (filter_map (entry_change schema rows (record { 0 = number })) entries) (entry_changes schema rows (number + 1) (drop (number + 1) space))
    ∙ (ap (λ left. before ++ entry_changes schema rows number left) (sym here) ∙ so_far)

-- and of all
pub all_tables : (schema : Schema) (rows : List (List Row)) (number : ℕ) (space : List (List Entry)) (before all : List Change) → length space ≤ number → before ++ entry_changes schema rows number (drop number space) ≡ all → before ≡ all
unfolding entry_changes
all_tables schema rows number space before all past so_far =
    sym (append-nil before) ∙ (ap (λ left. before ++ entry_changes schema rows number left) (sym (drop_all number space past)) ∙ so_far)
