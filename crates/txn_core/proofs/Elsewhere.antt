-- What an open transaction has changed represents its block on each database that is the same on the rows of its items.
use Rattle.std.proofs.Common.{◌≡◌, ◌∙◌, ◌<◌, ℕ, suc, List, [], ◌∷◌, Bool, true, false, Option, None, Some, ap, length, refl, subst, sym}
use Rattle.std.specs.Prelude.{is_some, slice_get}
use Rattle.std.specs.Option.{option_map_or}
use Rattle.std.proofs.lemmas.Option.{slice_get_within}
use Rattle.own_base.specs.Key.{key_cmp}
use Rattle.own_base.specs.declared.row_name.RowName.{RowName}
use Rattle.own_model.specs.declared.footprint.FootItem.{FootItem}
use Rattle.own_model.specs.declared.schema.Schema.{Schema}
use Rattle.own_model.specs.declared.schema.TableDef.{TableDef}
use Rattle.own_model.specs.Db.{AreRising, Db, Row, key_of}
use Rattle.own_model.specs.Stored.{row_named, rows_at}
use Rattle.own_model.proofs.KeyOrder.{key_order}
use Rattle.owner_model.specs.Joins.{row_of}
use Rattle.page_model.specs.Found.{found}
use Rattle.page_model.proofs.SameFound.{same_found}
use Rattle.query_model.specs.Footprints.{item}
use Rattle.state_model.specs.Sound.{IsWellFormed}
use Rattle.state_model.proofs.PutRows.{named_in, rising_at}
use Rattle.run_model.specs.Agree.{Agree}
use Rattle.run_model.specs.Items.{items_of_all}
use Rattle.run_model.proofs.AgreedRows.{row_of-agreed}
use Rattle.txn_space.specs.declared.entry.Entry.{Entry}
use Rattle.txn_space.specs.Changed.{changed_rows}
use Rattle.txn_space.specs.Entries.{entries_at, entry_key, entry_row}
use Rattle.txn_space.specs.Sound.{IsBase, IsSpaceOf}
use Rattle.txn_space.proofs.OverLemmas.{changed_rise, named_changed}
use Rattle.history_model.specs.World.{Block, after_block, statements_of}
use Rattle.history_model.proofs.BlockLemmas.{AreOfBlock, carries-block, kept-block, schema-block, still-block}
use Rattle.txn_core.specs.Runs.{is_entered, is_written}
use Rattle.txn_core.specs.RepresentsBlock.{RepresentsBlock}

-- lists of rows are those of others where the rows of each table are
rows_same : (tables : List TableDef) (rows others : List (List Row)) → AreRising tables rows → AreRising tables others
    → ((place : ℕ) (table : TableDef) → slice_get tables place ≡ Some table → rows_at rows place ≡ rows_at others place) → rows ≡ others
rows_same [] [] [] rise rises each = refl
rows_same [] [] (other ∷ others) rise rises each = absurd rises
rows_same [] (one ∷ rows) others rise rises each = absurd rise
rows_same (table ∷ tables) [] others rise rises each = absurd rise
rows_same (table ∷ tables) (one ∷ rows) [] rise rises each = absurd rises
rows_same (table ∷ tables) (one ∷ rows) (other ∷ others) rise rises each =
    let here : one ≡ other = each 0 table refl in
    ap (λ first. first ∷ rows) here ∙ ap (λ rest. other ∷ rest) (rows_same tables rows others rise.1 rises.1 (λ place next is. each (suc place) next is))

-- A block on another database that agrees on the rows of its items
module _ (places : ℕ) (flat other : Db) (block : Block) (kept : IsWellFormed flat) (kept_other : IsWellFormed other) (base : IsBase flat.schema.tables flat.rows) (base_other : IsBase other.schema.tables other.rows)
    (are : AreOfBlock places block) (agree : Agree (items_of_all flat.schema (statements_of block)) flat other) (space : List (List Entry)) (stands : RepresentsBlock flat block space) where
  abbrev items : List FootItem
  items = items_of_all flat.schema (statements_of block)

  sound : IsSpaceOf other.schema.tables space
  sound = subst (λ (schema : Schema). IsSpaceOf schema.tables space) agree.schema stands.sound

  -- the rows with the changes, and those that the block leaves, by name
  abbrev changed : List (List Row)
  changed = changed_rows other.schema.tables other.rows space

  abbrev left : List (List Row)
  left = (after_block other block).rows

  schema_flat : (after_block flat block).schema ≡ flat.schema
  schema_flat = schema-block places flat block are

  schema_other : (after_block other block).schema ≡ other.schema
  schema_other = schema-block places other block are

  module _ (name : RowName) (within : name.table.0 < length other.schema.tables) where
    abbrev entry : Option Entry
    entry = found entry_key key_cmp name.key (entries_at space name.table.0)

    here : row_named other.schema changed name ≡ option_map_or entry_row entry (row_of other name)
    here = named_changed other.schema other.rows space name base_other sound within

    there : row_named other.schema left name ≡ row_of (after_block other block) name
    there = ap (λ (schema : Schema). row_named schema left name) (sym schema_other)

    -- the same on the first database
    first : option_map_or entry_row entry (row_of flat name) ≡ row_of (after_block flat block) name
    first =
        let within_flat : name.table.0 < length flat.schema.tables = subst (λ (schema : Schema). name.table.0 < length schema.tables) (sym agree.schema) within in
        sym (named_changed flat.schema flat.rows space name base stands.sound within_flat)
        ∙ (ap (λ rows. row_named flat.schema rows name) stands.rows
        ∙ ap (λ (schema : Schema). row_named schema (after_block flat block).rows name) (sym schema_flat))

    -- a row that the block may write is the same on both, before it and behind it
    on_written : is_written items name ≡ true → row_named other.schema changed name ≡ row_named other.schema left name
    on_written meets =
        let before = row_of-agreed flat other agree.schema name items agree.on meets in
        let behind : row_of (after_block flat block) name ≡ row_of (after_block other block) name =
        carries-block places flat other block kept kept_other are agree (item name.table (Some name.key) false) before in
        here ∙ (ap (option_map_or entry_row entry) (sym before) ∙ (first ∙ (behind ∙ sym there)))

    -- any other isn't changed, and stays
    spared_by : (put : Option Entry) → entry ≡ put → is_written items name ≡ false → row_named other.schema changed name ≡ row_named other.schema left name
    spared_by (Some put) is none =
        let entered : is_entered space name ≡ true = ap is_some is in
        let never : true ≡ false = sym (stands.within name entered) ∙ none in
        absurd (cc)
    spared_by None is none =
        let own : is_written (items_of_all other.schema (statements_of block)) name ≡ false =
        ap (λ (schema : Schema). is_written (items_of_all schema (statements_of block)) name) (sym agree.schema) ∙ none in
        let stays : row_of other name ≡ row_of (after_block other block) name = still-block places other block kept_other are (item name.table (Some name.key) false) own in
        here ∙ (ap (λ put. option_map_or entry_row put (row_of other name)) is ∙ (stays ∙ sym there))

    by_name : (b : Bool) → is_written items name ≡ b → row_named other.schema changed name ≡ row_named other.schema left name
    by_name true meets = on_written meets
    by_name false none = spared_by entry refl none

  rising_left : AreRising other.schema.tables left
  rising_left = subst (λ (schema : Schema). AreRising schema.tables left) schema_other (kept-block places other block kept_other are).ordered.rising

  rising_changed : AreRising other.schema.tables changed
  rising_changed = changed_rise other.schema.tables other.rows space base_other sound

  table_same : (number : ℕ) (table : TableDef) → slice_get other.schema.tables number ≡ Some table → rows_at changed number ≡ rows_at left number
  table_same number table is =
      same_found (key_of table) key_order (rows_at changed number) (rows_at left number)
      (rising_at other.schema.tables changed number table rising_changed is) (rising_at other.schema.tables left number table rising_left is)
      (λ key. let name : RowName = record { table = record { 0 = number }; key = key } in
      sym (named_in other.schema changed name table is)
      ∙ (by_name name (slice_get_within other.schema.tables number table is) (is_written items name) refl ∙ named_in other.schema left name table is))

  -- What was changed represents the block there too.
  pub represents_there : RepresentsBlock other block space
  represents_there = record {
    sound = sound;
    rows = rows_same other.schema.tables changed left rising_changed rising_left table_same;
    within = λ name entered. ap (λ (schema : Schema). is_written (items_of_all schema (statements_of block)) name) (sym agree.schema) ∙ stands.within name entered;
  }
