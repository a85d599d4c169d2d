-- Databases that agree on items agree on the row of each name that one of them overlaps.
use Rattle.std.proofs.Common.{◌≡◌, List, [], ◌∷◌, ℕ, Bool, true, false, inl, inr, ap, sym, subst, ◌∙◌}
use Rattle.std.specs.Prelude.{◌⊎◌, Option, None, Some, find, slice_get}
use Rattle.std.specs.List.{AllByRecursion as Each, list_any}
use Rattle.std.specs.Option.{option_and_then}
use Rattle.std.proofs.lemmas.Bool.{and_parts, eqb-true, or_cases}
use Rattle.own_base.specs.declared.number.TableNo.{TableNo}
use Rattle.own_base.specs.declared.row_name.RowName.{RowName}
use Rattle.own_base.specs.declared.value.Key.{Key}
use Rattle.own_model.specs.declared.footprint.FootItem.{FootItem}
use Rattle.own_model.specs.declared.schema.Schema.{Schema}
use Rattle.own_model.specs.Db.{Db, Row}
use Rattle.own_model.specs.Stored.{has_key, row_named, rows_at}
use Rattle.owner_model.specs.Joins.{row_of}
use Rattle.query_model.specs.Footprints.{item}
use Rattle.subject_model.proofs.NamedLemmas.{one_key}
use Rattle.run_model.specs.Agree.{AgreeOn, overlaps}

module _ (db other : Db) (schema : db.schema ≡ other.schema) (name : RowName) where
  on_table : (table : TableNo) → table.0 ≡ name.table.0 → rows_at db.rows table.0 ≡ rows_at other.rows table.0 → row_of db name ≡ row_of other name
  unfolding row_named
  on_table table is same =
      let rows : rows_at db.rows name.table.0 ≡ rows_at other.rows name.table.0 = subst (λ n. rows_at db.rows n ≡ rows_at other.rows n) is same in
      ap (λ (schema : Schema). option_and_then (λ table. find (has_key table name.key) (rows_at db.rows name.table.0)) (slice_get schema.tables name.table.0)) schema
      ∙ ap (λ (rows : List Row). option_and_then (λ table. find (has_key table name.key) rows) (slice_get other.schema.tables name.table.0)) rows

  on_item : (table : TableNo) (key : Option Key) (write : Bool) → overlaps (record { table = table; key = key; write = write }) (item name.table (Some name.key) false) ≡ true
      → AgreeOn db other (record { table = table; key = key; write = write }) → row_of db name ≡ row_of other name
  on_item table None write meets agree =
      let both = and_parts _ _ (and_parts _ _ meets).0 in
      on_table table (eqb-true table.0 name.table.0 both.0) agree
  on_item table (Some key) write meets agree =
      let both = and_parts _ _ (and_parts _ _ meets).0 in
      let same_key : key ≡ name.key = sym (one_key name.key key both.1) in
      let same_table : table.0 ≡ name.table.0 = eqb-true table.0 name.table.0 both.0 in
      let named : ℕ → Key → RowName = λ number key. record { table = record { 0 = number }; key = key } in
      let same : named table.0 key ≡ name = ap (λ number. named number key) same_table ∙ ap (named name.table.0) same_key in
      subst (λ name. row_of db name ≡ row_of other name) same agree

  -- a row that one of the items overlaps is the same in both
  pub row_of-agreed : (items : List FootItem) → Each (AgreeOn db other) items → list_any (λ own. overlaps own (item name.table (Some name.key) false)) items ≡ true → row_of db name ≡ row_of other name
  row_of-agreed [] agree meets = let never : false ≡ true = meets in absurd (cc)
  row_of-agreed (own ∷ items) agree meets = by (or_cases _ _ meets) (row_of-agreed items agree.1)
    where
      by : (overlaps own (item name.table (Some name.key) false) ≡ true) ⊎ (list_any (λ own. overlaps own (item name.table (Some name.key) false)) items ≡ true)
          → (list_any (λ own. overlaps own (item name.table (Some name.key) false)) items ≡ true → row_of db name ≡ row_of other name) → row_of db name ≡ row_of other name
      by (inl here) more = on_item own.table own.key own.write here agree.0
      by (inr later) more = more later
