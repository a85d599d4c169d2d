-- A net between two sound databases is a lawful commit, and short enough to be kept.
use Rattle.std.proofs.Common.{◌≡◌, ◌∙◌, ℕ, zero, suc, ◌+◌, ◌≤◌, List, [], ◌∷◌, ◌++◌, length, map, fold, refl, ap, sym, subst, arith}
use Rattle.std.specs.Prelude.{◌≢◌, Contains, Result, Ok, Err, Option, None, Some, filter_map, find, slice_get, slice_index_or, sum_by}
use Rattle.std.specs.declared.cmp.Ordering.{Ordering}
use Rattle.std.specs.declared.cmp.Ordering.TheVariants.{Less, Equal, Greater}
use Rattle.std.specs.List.{AllByRecursion as Each, cons_option}
use Rattle.std.specs.List.Sorted.{IsStrictlySortedBy}
use Rattle.std.proofs.lemmas.List.{length-append, length-map}
use Rattle.std.proofs.lemmas.List.Sums.{sum_by-cons}
use Rattle.own_base.specs.Key.{key_cmp}
use Rattle.own_base.specs.declared.change.Change.{Change}
use Rattle.own_base.specs.declared.value.Key.{Key}
use Rattle.own_base.specs.declared.value.Value.TheVariants.{Null}
use Rattle.own_model.specs.declared.schema.TableDef.{TableDef}
use Rattle.own_model.specs.Db.{Db, Row, key_of}
use Rattle.own_model.specs.Stored.{has_key, row_named, rows_at}
use Rattle.query_model.specs.Footprints.{at_first, with_key}
use Rattle.schema_model.proofs.Found.{find-some}
use Rattle.schema_model.proofs.Places.{all-at}
use Rattle.subject_model.specs.NameOrder.{name_cmp}
use Rattle.subject_model.proofs.Members.{all_from_contained}
use Rattle.state_model.specs.Net.{change_at, keys_in, net, net_from, net_in}
use Rattle.state_model.specs.Payload.{payload_bytes}
use Rattle.state_model.specs.Put.{put}
use Rattle.state_model.specs.Rows.{AreRowsOf, IsRowOf}
use Rattle.state_model.proofs.Faultless.{few_rows}
use Rattle.state_model.proofs.NetLeads.{net_put}
use Rattle.state_model.proofs.NetOrder.{net_rises}
use Rattle.state_model.proofs.NetRows.{IsChangeFrom, from_told, named_at}
use Rattle.disk_model.specs.declared.commit.Put.{Put}
use Rattle.disk_model.specs.Bounds.{AreShortRows, IsCountable, IsShortPut, IsShortRow, IsShortState, IsShortValue}
use Rattle.disk_model.specs.Follows.{Puts, with_puts}
use Rattle.disk_model.specs.Lawful.{IsLawfulPut, IsLawfulState, IsRowUnder}
use Rattle.disk_model.specs.Payload.{AreChanges}
use Rattle.disk_model.specs.PutOf.{put_of, puts_of}
use Rattle.disk_model.specs.Value.{as_value}
use Rattle.check_image.proofs.SoundImages.{sound_rows}
use Rattle.commit_replay.proofs.FitLemmas.{row-under}
use Rattle.commit_replay.proofs.PutsLemmas.{with-puts}
use Rattle.disk_model.specs.declared.commit.Commit.TheVariants.{Changes}
use Rattle.disk_model.proofs.PayloadLength.{changes_length, payload-length}
use Rattle.rec_codec.specs.Framed.{Encodes, IsFramed, payload_length}
use Rattle.rec_codec.specs.declared.fault.EncodeFault.{EncodeFault}
use Rattle.rec_codec.specs.declared.fault.EncodeFault.TheVariants.{Memory, TooBig}
use Rattle.commit_record.specs.Recorded.{IsNetOf, RecordsChanges}

-- ---- the rows of a table

-- those of a table may stand in it
pub rows-may : (tables : List TableDef) (rows : List (List Row)) (number : ℕ) (table : TableDef) → AreRowsOf tables rows → slice_get tables number ≡ Some table → Each (IsRowOf table) (rows_at rows number)
rows-may [] rows number table are is = let never : ◌≡◌ {A = Option TableDef} None (Some table) = is in cc
rows-may (first ∷ tables) [] number table are is = absurd are
rows-may (first ∷ tables) (one ∷ rows) zero table are is = let same : first ≡ table = cc in subst (λ table. Each (IsRowOf table) one) same are.0
rows-may (first ∷ tables) (one ∷ rows) (suc number) table are is = rows-may tables rows number table are.1 is

-- and are short
pub rows-short : (rows : List (List Row)) (number : ℕ) → Each AreShortRows rows → Each IsShortRow (rows_at rows number)
rows-short [] number short = tt
rows-short (one ∷ rows) zero short = short.0.1
rows-short (one ∷ rows) (suc number) short = rows-short rows number short.1

-- the row that is found under a key stands there
found-under : (table : TableDef) (rows : List Row) (key : Key) (row : Row) → Each (IsRowOf table) rows → find (has_key table key) rows ≡ Some row → IsRowUnder table key row
found-under table rows key row may is =
    let at = find-some (has_key table key) rows row is in
    row-under table key row (all-at (IsRowOf table) rows may at.0.0 row at.0.1) at.1

found-short : (table : TableDef) (rows : List Row) (key : Key) (row : Row) → Each IsShortRow rows → find (has_key table key) rows ≡ Some row → IsShortRow row
found-short table rows key row short is =
    let at = find-some (has_key table key) rows row is in
    all-at IsShortRow rows short at.0.0 row at.0.1

-- what a short row has in a column is short
value-short : (row : Row) (place : ℕ) → Each IsShortValue row → IsShortValue (slice_index_or row place Null)
value-short [] place short = tt
value-short (value ∷ row) zero short = short.0
value-short (value ∷ row) (suc place) short = value-short row place short.1

-- and so is its key
pub key-short : (table : TableDef) (rows : List Row) (key : Key) (row : Row) → Each (IsRowOf table) rows → Each IsShortRow rows → find (has_key table key) rows ≡ Some row → IsShortValue (as_value key)
key-short table rows key row may short is =
    let under = found-under table rows key row may is in
    let own = found-short table rows key row short is in
    subst IsShortValue under.has_key (value-short row table.key.0 own.values)

-- ---- each of its changes

module _ (before after : Db) (changes : List Change) (net_is : IsNetOf before after changes) where
  told : (change : Change) → Contains changes change → IsChangeFrom 0 after.schema.tables before.rows after.rows change
  unfolding net
  told change among = from_told 0 after.schema.tables before.rows after.rows change (subst (λ changes. Contains changes change) net_is.is among)

  module _ (change : Change) (from : IsChangeFrom 0 after.schema.tables before.rows after.rows change) where
    numbered : change.name.table.0 ≡ from.place
    numbered = let is = from.at.number_is in omega arith

    there : slice_get before.schema.tables change.name.table.0 ≡ Some from.table
    there = ap (slice_get before.schema.tables) numbered ∙ (ap (λ schema. slice_get schema.tables from.place) (sym net_is.schema) ∙ from.table_is)

    may_before : Each (IsRowOf from.table) (rows_at before.rows from.place)
    may_before = rows-may before.schema.tables before.rows from.place from.table net_is.sound_before.well_formed.rows (ap (λ schema. slice_get schema.tables from.place) (sym net_is.schema) ∙ from.table_is)

    may_after : Each (IsRowOf from.table) (rows_at after.rows from.place)
    may_after = rows-may after.schema.tables after.rows from.place from.table net_is.sound_after.well_formed.rows from.table_is

    short_before : Each IsShortRow (rows_at before.rows from.place)
    short_before = rows-short before.rows from.place (sound_rows before net_is.sound_before).0

    short_after : Each IsShortRow (rows_at after.rows from.place)
    short_after = rows-short after.rows from.place (sound_rows after net_is.sound_after).0

    lawful_state : (state : Option Row) → find (has_key from.table change.name.key) (rows_at after.rows from.place) ≡ state → IsLawfulState from.table change.name.key state
    lawful_state None is = tt
    lawful_state (Some row) is = found-under from.table (rows_at after.rows from.place) change.name.key row may_after is

    was_there : row_named before.schema before.rows change.name ≡ change.before
    was_there = named_at before change.name from.table there ∙ (ap (λ n. find (has_key from.table change.name.key) (rows_at before.rows n)) numbered ∙ from.at.was)

    lawful_one : IsLawfulPut before (put_of change)
    lawful_one = record {
      table = from.table;
      is_there = there;
      after = lawful_state change.after from.at.is;
      differs = λ same. from.at.differ (sym was_there ∙ same);
    }

    short_state : (state : Option Row) → find (has_key from.table change.name.key) (rows_at after.rows from.place) ≡ state → IsShortState state
    short_state None is = tt
    short_state (Some row) is = found-short from.table (rows_at after.rows from.place) change.name.key row short_after is

    short_key : (old new : Option Row) → find (has_key from.table change.name.key) (rows_at before.rows from.place) ≡ old → find (has_key from.table change.name.key) (rows_at after.rows from.place) ≡ new
        → old ≢ new → IsShortValue (as_value change.name.key)
    short_key None None was is differ = absurd (differ refl)
    short_key (Some row) new was is differ = key-short from.table (rows_at before.rows from.place) change.name.key row may_before short_before was
    short_key None (Some row) was is differ = key-short from.table (rows_at after.rows from.place) change.name.key row may_after short_after is

    short_one : IsShortPut (put_of change)
    short_one = record { name = short_key change.before change.after from.at.was from.at.is from.at.differ; after = short_state change.after from.at.is }

  puts_all : (P : Put → Type 0) (some : List Change) → Each (λ change. P (put_of change)) some → Each P (puts_of some)
  puts_all P [] all = tt
  puts_all P (change ∷ rest) all = (all.0, puts_all P rest all.1)

  pub net-lawful : Each (IsLawfulPut before) (puts_of changes)
  net-lawful = puts_all (IsLawfulPut before) changes (all_from_contained _ changes (λ change among. lawful_one change (told change among)))

  pub net-short : Each IsShortPut (puts_of changes)
  net-short = puts_all IsShortPut changes (all_from_contained _ changes (λ change among. short_one change (told change among)))

  -- ---- together

  names_are : (some : List Change) → map (λ (put : Put). put.name) (puts_of some) ≡ map (λ (change : Change). change.name) some
  names_are [] = refl
  names_are (change ∷ rest) = ap (λ names. change.name ∷ names) (names_are rest)

  some_are : (some : List Change) → some ≢ [] → 1 ≤ length (puts_of some)
  some_are [] some = absurd (some refl)
  some_are (change ∷ rest) some = omega arith

  pub net-changes : AreChanges (puts_of changes)
  net-changes = record {
    some = some_are changes net_is.some;
    rising = subst (IsStrictlySortedBy name_cmp) (sym (names_are changes)) (subst (λ changes. IsStrictlySortedBy name_cmp (map (λ (change : Change). change.name) changes)) (sym net_is.is) (net_rises before after));
  }

  left : with_puts before (puts_of changes) ≡ after
  left =
      let rows = net_put before after net_is.sound_before.well_formed.ordered net_is.sound_after.well_formed.ordered net_is.schema in
      with-puts before changes ∙ (ap (put before) net_is.is ∙ (λ i. record { creates = sym net_is.creates i; schema = sym net_is.schema i; rows = rows i }))

  pub net-follows : Puts before (puts_of changes) after
  net-follows = record { lawful = net-lawful; after_is = sym left; faultless = net_is.sound_after.faultless }

  -- ---- how many

  key-more : (new first : Key) (rest further : List Key) → length further ≤ suc (length rest) → (o : Ordering) → length (at_first o new first rest further) ≤ suc (suc (length rest))
  key-more new first rest further few Less = omega arith
  key-more new first rest further few Equal = omega arith
  key-more new first rest further few Greater = omega arith

  keys-more : (new : Key) (keys : List Key) → length (with_key new keys) ≤ suc (length keys)
  keys-more new [] = omega arith
  keys-more new (first ∷ rest) = key-more new first rest (with_key new rest) (keys-more new rest) (key_cmp new first)

  keys-few : (table : TableDef) (keys : List Key) (rows : List Row) → length (fold (λ keys row. with_key (key_of table row) keys) keys rows) ≤ length keys + length rows
  keys-few table keys [] = omega arith
  keys-few table keys (row ∷ rows) = let own = keys-more (key_of table row) keys in let later = keys-few table (with_key (key_of table row) keys) rows in omega arith

  given-few : {X Y : Type 0} (give : X → Option Y) (xs : List X) → length (filter_map give xs) ≤ length xs
  given-few give [] = omega arith
  given-few {Y = Y} give (x ∷ xs) = by (give x) (given-few give xs)
    where
      by : (o : Option Y) → length (filter_map give xs) ≤ length xs → length (cons_option o (filter_map give xs)) ≤ suc (length xs)
      by None few = omega arith
      by (Some y) few = omega arith

  table-few : (number : ℕ) (table : TableDef) (old new : List Row) → length (net_in number table old new) ≤ length old + length new
  table-few number table old new =
      let given = given-few (change_at number table old new) (keys_in table (old ++ new)) in
      let keys = keys-few table [] (old ++ new) in
      let both = length-append old new in
      omega arith

  tables-few : (number : ℕ) (tables : List TableDef) (olds news : List (List Row)) → length (net_from number tables olds news) ≤ sum_by length olds + sum_by length news
  unfolding net_from
  tables-few number [] olds news = omega arith
  tables-few number (table ∷ tables) [] news = omega arith
  tables-few number (table ∷ tables) (old ∷ olds) [] = omega arith
  tables-few number (table ∷ tables) (old ∷ olds) (new ∷ news) =
      let own = table-few number table old new in
      let later = tables-few (number + 1) tables olds news in
      let both = length-append (net_in number table old new) (net_from (number + 1) tables olds news) in
      let was = sum_by-cons length old olds in
      let is = sum_by-cons length new news in
      omega arith

  pub net-countable : IsCountable (puts_of changes)
  unfolding net
  net-countable =
      let few = tables-few 0 after.schema.tables before.rows after.rows in
      let was = few_rows before net_is.sound_before.faultless in
      let is = few_rows after net_is.sound_after.faultless in
      let same = ap (λ (changes : List Change). length changes) net_is.is in
      let puts = length-map changes put_of in
      omega arith

-- the spelling of its payload is as long as is counted
spelled-length : (before after : Db) (changes : List Change) → IsNetOf before after changes → payload_length (Changes (puts_of changes)) ≡ payload_bytes changes
unfolding payload_bytes
spelled-length before after changes net_is =
    let each = changes_length changes (net-short before after changes net_is) in
    omega arith

-- what is encoded of it is its record
pub records-net : (before after : Db) (changes : List Change) (puts : List Put) (result : Result (List ℕ) EncodeFault) → puts ≡ puts_of changes → Encodes (Changes puts) result → IsNetOf before after changes
    → RecordsChanges before after changes result
records-net before after changes puts (Ok framed) same is net_is =
    let framed_is : IsFramed (Changes (puts_of changes)) framed = subst (λ puts. IsFramed (Changes puts) framed) same is in
    let long = payload-length changes framed_is.payload framed_is.is_payload in
    let few = framed_is.few in
    (record { commit = Changes (puts_of changes); is_framed = framed_is; follows = net-follows before after changes net_is }, omega arith, framed_is)
records-net before after changes puts (Err (TooBig count)) same is net_is = (is.0 ∙ (ap (λ (puts : List Put). payload_length (Changes puts)) same ∙ spelled-length before after changes net_is), is.1)
records-net before after changes puts (Err Memory) same is net_is = tt
