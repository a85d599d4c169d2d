-- Looking for a place among rows with entries.
use Rattle.std.proofs.Common.{◌≡◌, refl, sym, ◌∙◌, ap, ℕ, zero, suc, ◌+◌, ◌-◌, ◌<◌, ◌≤◌, List, [], ◌∷◌, ◌++◌, length, drop, get_or, append_assoc, length-append, arith}
use Rattle.std.proofs.Math.Seq.{drop-append-add}
use Rattle.std.proofs.lemmas.List.{drop-append-le, length-drop}
use Rattle.own_base.specs.Key.{key_cmp}
use Rattle.own_model.specs.declared.schema.TableDef.{TableDef}
use Rattle.own_model.specs.Db.{Row, key_of}
use Rattle.own_model.specs.Stored.{IsRunFrom}
use Rattle.own_model.proofs.KeyOrder.{key_order}
use Rattle.page_model.specs.Changed.{AreKeyed, above_key, with_changes}
use Rattle.page_model.specs.Rising.{IsRising}
use Rattle.page_model.proofs.ChangedLemmas.{changes_next}
use Rattle.txn_space.specs.declared.entry.Entry.{Entry}
use Rattle.txn_space.specs.Changed.{rows_with}
use Rattle.txn_space.specs.Entries.{entry_key, entry_row}
use Rattle.txn_space.specs.Passed.{IsBehind, IsPartFrom, upto_entry}
use Rattle.txn_space.proofs.SpotLemmas.{dropped_twice}

module _ {X : Type 0} where
  -- rows that begin within the front of a list
  pub part_within : (front back : List X) (place : ℕ) (run rest : List X) → drop place front ≡ run ++ rest → 0 < length run → drop place (front ++ back) ≡ run ++ (rest ++ back)
  part_within front back place run rest follow some =
      let long : length (drop place front) ≡ length run + length rest = ap length follow ∙ length-append run rest in
      let within : place ≤ length front = omega (arith, length-drop place front) in
      drop-append-le place front back within ∙ (ap (λ xs. xs ++ back) follow ∙ append_assoc run rest back)

  -- and those that begin behind it
  pub part_behind : (front back : List X) (place left : ℕ) → place ≡ length front + left → drop place (front ++ back) ≡ drop left back
  part_behind front back place left sums = ap (λ n. drop n (front ++ back)) sums ∙ drop-append-add front back left

module _ (table : TableDef) (entries : List Entry) (rows : List Row) (rising : IsRising entry_key key_cmp entries) (keyed : AreKeyed (key_of table) entry_key entry_row entries) where
  -- the rows with the entries from one on: those up to this one, and the rest
  pub entry_next : (number : ℕ) (entry : Entry) → number < length entries → entry ≡ get_or entries number entry → (xs : List Row)
      → rows_with table (drop number entries) xs ≡ upto_entry table entry xs ++ rows_with table (drop (number + 1) entries) (above_key (key_of table) key_cmp (entry_key entry) xs)
  entry_next number entry within is xs = changes_next (key_of table) key_order entry_key entry_row entries number entry xs within is rising keyed

  -- the place is up to this entry
  pub found_within : (at from left number : ℕ) (entry : Entry) (run : List Row) → number < length entries → entry ≡ get_or entries number entry
      → drop at (rows_with table entries rows) ≡ drop left (rows_with table (drop number entries) (drop from rows))
      → IsPartFrom (upto_entry table entry (drop from rows)) left run → IsRunFrom (rows_with table entries rows) at run
  found_within at from left number entry run within is here part =
      record {
        rest = part.rest ++ rows_with table (drop (number + 1) entries) (above_key (key_of table) key_cmp (entry_key entry) (drop from rows));
        follow = here ∙ (ap (drop left) (entry_next number entry within is (drop from rows)) ∙ part_within _ _ left run part.rest part.follow part.some);
        some = λ _. part.some;
      }

  -- or behind it
  pub found_behind : (at from left number next further : ℕ) (entry : Entry) → number < length entries → entry ≡ get_or entries number entry
      → drop at (rows_with table entries rows) ≡ drop left (rows_with table (drop number entries) (drop from rows))
      → IsBehind table entry rows from left next further
      → drop at (rows_with table entries rows) ≡ drop further (rows_with table (drop (number + 1) entries) (drop next rows))
  found_behind at from left number next further entry within is here behind =
      here ∙ (ap (drop left) (entry_next number entry within is (drop from rows)) ∙ (part_behind _ _ left further behind.sums
      ∙ ap (λ xs. drop further (rows_with table (drop (number + 1) entries) xs)) behind.above))

  -- behind all entries the rows are those of the base
  pub found_last : (at from left number : ℕ) → length entries ≤ number → drop at (rows_with table entries rows) ≡ drop left (rows_with table (drop number entries) (drop from rows))
      → drop at (rows_with table entries rows) ≡ drop (from + left) rows
  unfolding with_changes
  found_last at from left number past here =
      here ∙ (ap (λ es. drop left (rows_with table es (drop from rows))) (drop_past number entries past)
      ∙ (dropped_twice from left rows ∙ ap (λ n. drop n rows) (omega arith)))
    where
      drop_past : (n : ℕ) (es : List Entry) → length es ≤ n → drop n es ≡ []
      drop_past zero [] h = refl
      drop_past (suc n) [] h = refl
      drop_past zero (e ∷ es) h = absurd (omega arith)
      drop_past (suc n) (e ∷ es) h = drop_past n es (omega arith)

-- a run of rows from where others go on
pub run_of_rest : (all rows run : List Row) (at place : ℕ) → drop at all ≡ drop place rows → IsRunFrom rows place run → IsRunFrom all at run
run_of_rest all rows run at place same is =
    let lengths : length all - at ≡ length rows - place = sym (length-drop at all) ∙ (ap length same ∙ length-drop place rows) in
    record { rest = is.rest; follow = same ∙ is.follow; some = λ within. is.some (omega arith) }

-- none past the end
pub run_past : (all rows : List Row) (at place : ℕ) → drop at all ≡ drop place rows → length rows ≤ place → IsRunFrom all at []
run_past all rows at place same past =
    let lengths : length all - at ≡ length rows - place = sym (length-drop at all) ∙ (ap length same ∙ length-drop place rows) in
    record { rest = drop at all; follow = refl; some = λ within. absurd (omega arith) }
