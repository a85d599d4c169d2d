-- A block's net depends on the rows of its items alone.
use Rattle.std.proofs.Common.{◌≡◌, ℕ, ◌+◌, List, Bool, true, false, refl, ap, sym, subst, ◌∙◌, arith}
use Rattle.std.specs.Prelude.{Option, None, Some, find, slice_get}
use Rattle.std.specs.List.{list_any}
use Rattle.own_base.specs.declared.row_name.RowName.{RowName}
use Rattle.own_base.specs.declared.value.Key.{Key}
use Rattle.own_model.specs.declared.footprint.FootItem.{FootItem}
use Rattle.own_model.specs.declared.schema.Schema.{Schema}
use Rattle.own_model.specs.declared.schema.TableDef.{TableDef}
use Rattle.own_model.specs.Db.{Db, Row}
use Rattle.own_model.specs.Stored.{has_key, rows_at}
use Rattle.owner_model.specs.Joins.{row_of}
use Rattle.state_model.specs.Net.{change_unless_same, net}
use Rattle.state_model.specs.Same.{is_same_state}
use Rattle.state_model.specs.Sound.{IsWellFormed}
use Rattle.state_model.proofs.NetRows.{named_at}
use Rattle.state_model.proofs.SameLemmas.{state_same}
use Rattle.run_model.specs.Agree.{Agree, overlaps}
use Rattle.run_model.specs.Items.{items_of_all}
use Rattle.run_model.proofs.AgreedRows.{row_of-agreed}
use Rattle.history_model.specs.World.{Block, after_block, statements_of}
use Rattle.history_model.proofs.BlockLemmas.{AreOfBlock, carries-block, kept-block, schema-block, still-block}
use Rattle.history_model.proofs.NetLemmas.{AreChangedAlike, net-alike}

-- a row that ends as it began isn't changed
unchanged : (name : RowName) (before after : Option Row) → before ≡ after → change_unless_same name before after ≡ None
unchanged name before after same = let own : is_same_state before after ≡ true = subst (λ state. is_same_state before state ≡ true) same (state_same before) in rw own refl

-- one row, read
abbrev row_item : RowName → FootItem
row_item name = record { table = name.table; key = Some name.key; write = false }

module _ (places : ℕ) (db other : Db) (block : Block) (kept : IsWellFormed db) (kept_other : IsWellFormed other) (are : AreOfBlock places block)
    (agree : Agree (items_of_all db.schema (statements_of block)) db other) where
  abbrev left : Db
  left = after_block db block

  abbrev left_other : Db
  left_other = after_block other block

  abbrev items : List FootItem
  items = items_of_all db.schema (statements_of block)

  schema_left : left.schema ≡ db.schema
  schema_left = schema-block places db block are

  schema_other : left_other.schema ≡ db.schema
  schema_other = schema-block places other block are ∙ sym agree.schema

  module _ (number : ℕ) (table : TableDef) (is : slice_get db.schema.tables number ≡ Some table) (key : Key) where
    abbrev name : RowName
    name = record { table = record { 0 = number }; key = key }

    -- the row of the key, by the table of its number
    found_in : (one : Db) → one.schema ≡ db.schema → row_of one name ≡ find (has_key table key) (rows_at one.rows number)
    found_in one schema = named_at one name table (subst (λ (s : Schema). slice_get s.tables number ≡ Some table) (sym schema) is)

    abbrev found : Db → Option Row
    found one = find (has_key table key) (rows_at one.rows number)

    -- a row that the block may write is the same in both, before and after
    written : list_any (λ own. overlaps own (row_item name)) items ≡ true
        → change_unless_same name (found db) (found left) ≡ change_unless_same name (found other) (found left_other)
    written meets =
        let before = row_of-agreed db other agree.schema name items agree.on meets in
        let after = carries-block places db other block kept kept_other are agree (row_item name) before in
        let first : found db ≡ found other = sym (found_in db refl) ∙ (before ∙ found_in other (sym agree.schema)) in
        let last : found left ≡ found left_other = sym (found_in left schema_left) ∙ (after ∙ found_in left_other schema_other) in
        ap (λ state. change_unless_same name state (found left)) first ∙ ap (change_unless_same name (found other)) last

    -- any other row stays in both
    spared : list_any (λ own. overlaps own (row_item name)) items ≡ false
        → change_unless_same name (found db) (found left) ≡ change_unless_same name (found other) (found left_other)
    spared none =
        let own = still-block places db block kept are (row_item name) none in
        let same : items_of_all other.schema (statements_of block) ≡ items = ap (λ schema. items_of_all schema (statements_of block)) (sym agree.schema) in
        let others = still-block places other block kept_other are (row_item name) (ap (list_any (λ own. overlaps own (row_item name))) same ∙ none) in
        let first : found db ≡ found left = sym (found_in db refl) ∙ (own ∙ found_in left schema_left) in
        let last : found other ≡ found left_other = sym (found_in other (sym agree.schema)) ∙ (others ∙ found_in left_other schema_other) in
        unchanged name (found db) (found left) first ∙ sym (unchanged name (found other) (found left_other) last)

    alike_by : (b : Bool) → list_any (λ own. overlaps own (row_item name)) items ≡ b
        → change_unless_same name (found db) (found left) ≡ change_unless_same name (found other) (found left_other)
    alike_by true meets = written meets
    alike_by false none = spared none

    alike : change_unless_same name (found db) (found left) ≡ change_unless_same name (found other) (found left_other)
    alike = alike_by _ refl

  -- a block's net is the same where the rows of its items are
  pub net-agree : net db (after_block db block) ≡ net other (after_block other block)
  net-agree =
      net-alike db left other left_other kept.ordered (kept-block places db block kept are).ordered kept_other.ordered (kept-block places other block kept_other are).ordered
      schema_left (sym agree.schema) schema_other
      (λ place table is key. let here : 0 + place ≡ place = omega arith in
      subst (λ n. AreChangedAlike n table (rows_at db.rows place) (rows_at left.rows place) (rows_at other.rows place) (rows_at left_other.rows place)) (sym here)
      (λ key. alike place table is key) key)
