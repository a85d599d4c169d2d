-- Merging the rows of a table with its entries.
use Rattle.std.proofs.Common.{◌≡◌, refl, sym, ◌∙◌, ap, ℕ, zero, suc, List, [], ◌∷◌, ◌++◌, Some, None, drop, append_assoc, inl, inr, arith}
use Rattle.std.specs.Prelude.{slice_get}
use Rattle.std.proofs.lemmas.Option.{slice_get_cases}
use Rattle.own_base.specs.Key.{key_cmp}
use Rattle.own_model.specs.declared.schema.TableDef.{TableDef}
use Rattle.own_model.specs.Db.{Row, key_of}
use Rattle.own_model.specs.Stored.{IsRunFrom, rows_at}
use Rattle.own_model.proofs.KeyOrder.{key_order}
use Rattle.page_model.specs.Changed.{AreKeyed, above_key, with_changes}
use Rattle.page_model.specs.Rising.{IsRising}
use Rattle.page_model.proofs.ChangedLemmas.{changes_step}
use Rattle.page_model.proofs.RisingLemmas.{each_append, rising_behind}
use Rattle.txn_space.specs.declared.entry.Entry.{Entry}
use Rattle.txn_space.specs.declared.merged.MergedTable.{MergedTable}
use Rattle.txn_space.specs.Changed.{rows_with}
use Rattle.txn_space.specs.Entries.{entry_key, entry_row}
use Rattle.txn_space.specs.Merged.{AreMerged}
use Rattle.txn_space.specs.Passed.{upto_entry}

module _ (table : TableDef) where
  -- what is merged, and what is left to it, one entry on
  pub merged_more : (entry : Entry) (entries : List Entry) (rows added left rest whole : List Row) → IsRising entry_key key_cmp (entry ∷ entries) → AreKeyed (key_of table) entry_key entry_row (entry ∷ entries)
      → added ≡ rows ++ upto_entry table entry left → rest ≡ above_key (key_of table) key_cmp (entry_key entry) left
      → rows ++ rows_with table (entry ∷ entries) left ≡ whole → added ++ rows_with table entries rest ≡ whole
  merged_more entry entries rows added left rest whole rising keyed more above before =
      ap (λ (added : List Row). added ++ rows_with table entries rest) more
      ∙ append_assoc rows (upto_entry table entry left) (rows_with table entries rest)
      ∙ ap (λ (others : List Row). rows ++ (upto_entry table entry left ++ rows_with table entries others)) above
      ∙ ap (λ (all : List Row). rows ++ all) (sym (changes_step (key_of table) key_order entry_key entry_row entry entries left (rising_behind entry_key key_cmp entry entries rising) keyed.0))
      ∙ before

  -- behind all entries the rows that are left follow
  pub merged_last : (entries : List Entry) (rows left whole : List Row) → entries ≡ [] → rows ++ rows_with table entries left ≡ whole → rows ++ left ≡ whole
  unfolding with_changes
  merged_last entries rows left whole none before = ap (λ es. rows ++ rows_with table es left) (sym none) ∙ before

-- a row at a place comes first of those from there
pub first_at : (rows : List Row) (place : ℕ) (row : Row) → slice_get rows place ≡ Some row → drop place rows ≡ row ∷ drop (suc place) rows
first_at [] zero row found = cc
first_at [] (suc place) row found = cc
first_at (first ∷ rows) zero row found = let same : first ≡ row = cc in ap (λ row. row ∷ rows) same
first_at (first ∷ rows) (suc place) row found = first_at rows place row found

-- so it is a run
pub run_of_one : (rows run : List Row) (place : ℕ) (row : Row) → slice_get rows place ≡ Some row → run ≡ row ∷ [] → IsRunFrom rows place run
run_of_one rows run place row found is =
    record { rest = drop (suc place) rows; follow = first_at rows place row found ∙ ap (λ run. run ++ drop (suc place) rows) (sym is); some = λ within. rw is (omega arith) }

-- past the end there is none
pub run_of_none : (rows : List Row) (place : ℕ) → slice_get rows place ≡ None → IsRunFrom rows place []
run_of_none rows place none = record {
  rest = drop place rows;
  follow = refl;
  some = λ within. elim ((slice_get_cases rows place).1) [
    | inl (row, there, found, is) ↦ let never : None ≡ Some row = sym none ∙ found in cc
    | inr (past, nothing) ↦ absurd (omega arith)
  ];
}

-- a table more
pub merged_table : (rows : List (List Row)) (tables : List MergedTable) (more : MergedTable) → more.rows ≡ rows_at rows more.table.0 → AreMerged rows tables → AreMerged rows (tables ++ more ∷ [])
merged_table rows tables more same merged = each_append (λ (table : MergedTable). table.rows ≡ rows_at rows table.table.0) tables (more ∷ []) merged (same, tt)
