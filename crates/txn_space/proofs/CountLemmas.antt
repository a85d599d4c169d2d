-- Counting rows with entries, entry by entry.
use Rattle.std.proofs.Common.{◌≡◌, refl, ◌∙◌, ap, ℕ, zero, suc, ◌+◌, ◌-◌, ◌<◌, ◌≤◌, List, [], ◌∷◌, Option, Some, None, length, take, drop, get_or, length-append, arith}
use Rattle.std.specs.Prelude.{true, false, is_some}
use Rattle.std.specs.Option.{option_to_list}
use Rattle.std.proofs.lemmas.List.{length-drop, length-take-le}
use Rattle.own_base.specs.Key.{key_cmp}
use Rattle.own_model.specs.declared.schema.TableDef.{TableDef}
use Rattle.own_model.specs.Db.{Row, key_of}
use Rattle.page_model.specs.Changed.{AreKeyed, above_key, below_key, with_changes}
use Rattle.page_model.specs.Rising.{IsRising}
use Rattle.txn_space.specs.declared.entry.Entry.{Entry}
use Rattle.txn_space.specs.Changed.{rows_with}
use Rattle.txn_space.specs.Entries.{entry_key, entry_row}
use Rattle.txn_space.specs.Passed.{upto_entry}
use Rattle.txn_space.proofs.WalkLemmas.{entry_next}

one_put : (row : Option Row) → is_some row ≡ true → length (option_to_list row) ≡ 1
one_put None is = cc
one_put (Some row) is = refl

none_put : (row : Option Row) → is_some row ≡ false → length (option_to_list row) ≡ 0
none_put None is = refl
none_put (Some row) is = cc

module _ (table : TableDef) (entries : List Entry) (rows : List Row) (rising : IsRising entry_key key_cmp entries) (keyed : AreKeyed (key_of table) entry_key entry_row entries) where
  -- those up to an entry, and the rest
  counted_next : (count from number below behind put : ℕ) (entry : Entry) → number < length entries → entry ≡ get_or entries number entry
      → length (rows_with table entries rows) ≡ count + length (rows_with table (drop number entries) (drop from rows))
      → from ≤ below → below ≤ behind → behind ≤ length rows
      → below_key (key_of table) key_cmp entry.key (drop from rows) ≡ take (below - from) (drop from rows)
      → above_key (key_of table) key_cmp entry.key (drop from rows) ≡ drop behind rows
      → length (option_to_list entry.row) ≡ put
      → length (rows_with table entries rows) ≡ count + (below - from) + put + length (rows_with table (drop (number + 1) entries) (drop behind rows))
  counted_next count from number below behind put entry within is so_far order later inside before above one =
      let rest = rows_with table (drop (number + 1) entries) (above_key (key_of table) key_cmp (entry_key entry) (drop from rows)) in
      let parts : length (rows_with table (drop number entries) (drop from rows)) ≡ length (upto_entry table entry (drop from rows)) + length rest =
      ap length (entry_next table entries rows rising keyed number entry within is (drop from rows)) ∙ length-append (upto_entry table entry (drop from rows)) rest in
      let front : length (upto_entry table entry (drop from rows)) ≡ length (below_key (key_of table) key_cmp (entry_key entry) (drop from rows)) + put =
      length-append (below_key (key_of table) key_cmp (entry_key entry) (drop from rows)) (option_to_list (entry_row entry)) ∙ ap (λ n. length (below_key (key_of table) key_cmp (entry_key entry) (drop from rows)) + n) one in
      let taken : length (below_key (key_of table) key_cmp (entry_key entry) (drop from rows)) ≡ below - from = ap length before ∙ length-take-le (below - from) (drop from rows) (omega (arith, length-drop from rows)) in
      let left : length rest ≡ length (rows_with table (drop (number + 1) entries) (drop behind rows)) = ap (λ xs. length (rows_with table (drop (number + 1) entries) xs)) above in
      omega arith

  pub counted_some : (count from number below behind : ℕ) (entry : Entry) → number < length entries → entry ≡ get_or entries number entry
      → length (rows_with table entries rows) ≡ count + length (rows_with table (drop number entries) (drop from rows))
      → from ≤ below → below ≤ behind → behind ≤ length rows
      → below_key (key_of table) key_cmp entry.key (drop from rows) ≡ take (below - from) (drop from rows)
      → above_key (key_of table) key_cmp entry.key (drop from rows) ≡ drop behind rows
      → is_some entry.row ≡ true
      → length (rows_with table entries rows) ≡ count + (below - from) + 1 + length (rows_with table (drop (number + 1) entries) (drop behind rows))
  counted_some count from number below behind entry within is so_far order later inside before above some =
      counted_next count from number below behind 1 entry within is so_far order later inside before above (one_put entry.row some)

  pub counted_none : (count from number below behind : ℕ) (entry : Entry) → number < length entries → entry ≡ get_or entries number entry
      → length (rows_with table entries rows) ≡ count + length (rows_with table (drop number entries) (drop from rows))
      → from ≤ below → below ≤ behind → behind ≤ length rows
      → below_key (key_of table) key_cmp entry.key (drop from rows) ≡ take (below - from) (drop from rows)
      → above_key (key_of table) key_cmp entry.key (drop from rows) ≡ drop behind rows
      → is_some entry.row ≡ false
      → length (rows_with table entries rows) ≡ count + (below - from) + length (rows_with table (drop (number + 1) entries) (drop behind rows))
  counted_none count from number below behind entry within is so_far order later inside before above none =
      let more = counted_next count from number below behind 0 entry within is so_far order later inside before above (none_put entry.row none) in
      omega arith

  -- behind all entries the rows are those of the base
  pub counted_last : (count from number : ℕ) → length entries ≤ number → length (rows_with table entries rows) ≡ count + length (rows_with table (drop number entries) (drop from rows))
      → count + (length rows - from) ≡ length (rows_with table entries rows)
  unfolding with_changes
  counted_last count from number past so_far =
      let left : length (rows_with table (drop number entries) (drop from rows)) ≡ length (drop from rows) = ap (λ es. length (rows_with table es (drop from rows))) (drop_past number entries past) in
      omega (arith, length-drop from rows)
    where
      drop_past : (n : ℕ) (es : List Entry) → length es ≤ n → drop n es ≡ []
      drop_past zero [] h = refl
      drop_past (suc n) [] h = refl
      drop_past zero (e ∷ es) h = absurd (omega arith)
      drop_past (suc n) (e ∷ es) h = drop_past n es (omega arith)
