-- Changes of one table's rows lead from the database to the one with them.
use Rattle.std.proofs.Common.{◌≡◌, ◌≢◌, ◌==◌, ℕ, List, [], ◌∷◌, Bool, true, false, Some, map, refl, sym, ap, ◌∙◌, arith}
use Rattle.std.specs.Prelude.{slice_get, slice_set}
use Rattle.std.specs.List.{AllByRecursion as Each, filter, find, list_any}
use Rattle.std.proofs.lemmas.Bool.{eqb-false, eqb-true, or_parts}
use Rattle.std.proofs.lemmas.Bool.Decides.{nat_tests}
use Rattle.std.proofs.lemmas.List.{get_or-set_other}
use Rattle.own_base.specs.Key.{key_cmp}
use Rattle.own_base.specs.declared.change.Change.{Change}
use Rattle.own_base.specs.declared.number.TableNo.{TableNo}
use Rattle.own_base.specs.declared.row_name.RowName.{RowName}
use Rattle.own_base.specs.declared.value.Key.{Key}
use Rattle.own_model.specs.declared.schema.Schema.{Schema}
use Rattle.own_model.specs.declared.schema.TableDef.{TableDef}
use Rattle.own_model.specs.Db.{AreRising, Db, Row}
use Rattle.own_model.specs.Stored.{has_key, is_equal, row_named, rows_at}
use Rattle.own_model.proofs.KeyOrder.{key_order}
use Rattle.page_model.specs.Rising.{IsRising}
use Rattle.page_model.proofs.ChangedLemmas.{rising_filter}
use Rattle.page_model.proofs.InOrder.{rising_differ}
use Rattle.subject_model.specs.Named.{is_name}
use Rattle.state_model.specs.ChangeOf.{TellsRows}
use Rattle.state_model.specs.LeadTo.{LeadTo}
use Rattle.state_model.specs.MayBePut.{KeysDiffer}
use Rattle.state_model.specs.Put.{changed_key, is_of_table}
use Rattle.run_model.proofs.TableRows.{rows_put}

same_number : (m n : ℕ) → m ≡ n → (m == n) ≡ true
same_number m n same = grind (arith, nat_tests)

-- whether a change is of a key
abbrev pub is_of : Key → Change → Bool
is_of key change = is_equal (key_cmp change.name.key key)

-- a change of a row of one table, from some rows to others
pub record IsWithin (number : TableNo) (table : TableDef) (before after : List Row) (change : Change) : Type 0 where
  pub of : change.name.table ≡ number
  pub was : change.before ≡ find (has_key table change.name.key) before
  pub is : change.after ≡ find (has_key table change.name.key) after

-- changes of one table, by key
pub record LeadWithin (number : TableNo) (table : TableDef) (before after : List Row) (changes : List Change) : Type 0 where
  pub each : Each (IsWithin number table before after) changes
  pub rising : IsRising changed_key key_cmp changes
  pub others : (key : Key) → list_any (is_of key) changes ≡ false → find (has_key table key) before ≡ find (has_key table key) after

-- in each table their keys differ
once_of : (changes : List Change) → IsRising changed_key key_cmp changes → (number : ℕ) → KeysDiffer (filter (is_of_table number) changes)
once_of changes rising number =
    rising_differ key_cmp (map changed_key (filter (is_of_table number) changes))
    (rising_filter changed_key key_order changed_key (λ (change : Change). Some change) (is_of_table number) changes rising)

module _ (db : Db) (number : TableNo) (table : TableDef) (after : List Row)
    (rise : AreRising db.schema.tables db.rows) (is : slice_get db.schema.tables number.0 ≡ Some table) where
  abbrev schema : Schema
  schema = db.schema

  abbrev rows : List (List Row)
  rows = db.rows

  abbrev afters : List (List Row)
  afters = slice_set rows number.0 after

  -- a row of the table, by its key
  named_before : (key : Key) → row_named schema rows (record { table = number; key = key }) ≡ find (has_key table key) (rows_at rows number.0)
  unfolding row_named
  named_before key = rw is refl

  named_after : (key : Key) → row_named schema afters (record { table = number; key = key }) ≡ find (has_key table key) after
  unfolding row_named
  named_after key = rw (is, rows_put schema.tables rows number.0 table after rise is) refl

  change_of : (change : Change) → IsWithin number table (rows_at rows number.0) after change → TellsRows db (record db { rows = afters }) change
  change_of change within = record {
    was = within.was ∙ sym (at rows within.of ∙ named_before change.name.key);
    is = within.is ∙ sym (at afters within.of ∙ named_after change.name.key);
  }
    where
      at : (rows : List (List Row)) → change.name.table ≡ number → row_named schema rows change.name ≡ row_named schema rows (record { table = number; key = change.name.key })
      at rows same = ap (λ (table : TableNo). row_named schema rows (record { table = table; key = change.name.key })) same

  changes_of : (changes : List Change) → Each (IsWithin number table (rows_at rows number.0) after) changes → Each (TellsRows db (record db { rows = afters })) changes
  changes_of [] all = tt
  changes_of (change ∷ changes) all = (change_of change all.0, changes_of changes all.1)

  -- a row of another table
  named_elsewhere : (name : RowName) → name.table.0 ≢ number.0 → row_named schema rows name ≡ row_named schema afters name
  unfolding row_named
  named_elsewhere name off = rw (get_or-set_other rows number.0 name.table.0 after [] off) refl

  -- a name of the table that no change has
  unnamed : (name : RowName) → name.table.0 ≡ number.0 → (changes : List Change) → Each (IsWithin number table (rows_at rows number.0) after) changes
      → list_any (λ change. is_name change.name name) changes ≡ false → list_any (is_of name.key) changes ≡ false
  unnamed name at [] all none = refl
  unnamed name at (change ∷ changes) all none =
      let table : change.name.table.0 ≡ name.table.0 = ap (λ (table : TableNo). table.0) all.0.of ∙ sym at in
      let same : (change.name.table.0 == name.table.0) ≡ true = same_number _ _ table in
      let both = or_parts (is_name change.name name) (list_any (λ change. is_name change.name name) changes) none in
      let own : is_of name.key change ≡ false = rw same at both.0 in
      rw (own, unnamed name at changes all.1 both.1) refl

  others_of : (changes : List Change) → LeadWithin number table (rows_at rows number.0) after changes
      → (name : RowName) → list_any (λ change. is_name change.name name) changes ≡ false → row_named schema rows name ≡ row_named schema afters name
  others_of changes lead name none = by (name.table.0 == number.0) refl
    where
      numbered : ℕ → TableNo
      numbered n = record { 0 = n }

      at : (rows : List (List Row)) → name.table ≡ number → row_named schema rows name ≡ row_named schema rows (record { table = number; key = name.key })
      at rows same = ap (λ (table : TableNo). row_named schema rows (record { table = table; key = name.key })) same

      by : (b : Bool) → (name.table.0 == number.0) ≡ b → row_named schema rows name ≡ row_named schema afters name
      by false is = named_elsewhere name (eqb-false _ _ is)
      by true is =
          let here : name.table ≡ number = ap (λ (n : ℕ). numbered n) (eqb-true _ _ is) in
          at rows here ∙ (named_before name.key ∙ (lead.others name.key (unnamed name (eqb-true _ _ is) changes lead.each none) ∙ sym (at afters here ∙ named_after name.key)))

  pub lead_of : (changes : List Change) → LeadWithin number table (rows_at rows number.0) after changes → LeadTo db (record db { rows = afters }) changes
  lead_of changes lead = record { each = changes_of changes lead.each; once = once_of changes lead.rising; others = others_of changes lead }

  -- they are of the table
  pub of_table : (changes : List Change) → Each (IsWithin number table (rows_at rows number.0) after) changes → Each (λ change. change.name.table ≡ number) changes
  of_table [] all = tt
  of_table (change ∷ changes) all = (all.0.of, of_table changes all.1)
