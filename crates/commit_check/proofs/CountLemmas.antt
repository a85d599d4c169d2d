-- How many rows hold a value, counted row by row.
use Rattle.std.proofs.Common.{◌≡◌, ℕ, ◌+◌, ◌<◌, List, [], ◌∷◌, ◌++◌, Bool, true, false, cond, length, take, inl, inr, refl, ap, sym, ◌∙◌, subst, add-zero, length-append, arith}
use Rattle.std.specs.Prelude.{MatchOption, Option, None, Some, ◌&&◌, count_by, if◌then◌else◌, nat_lt, not, slice_get, unwrap_or}
use Rattle.std.specs.BTreeMap.{BTreeMap, Updates, get}
use Rattle.std.specs.Ordering.{is_eq}
use Rattle.std.proofs.lemmas.List.Sums.{count_by-le-length, count_by_more_no, count_by_more_yes}
use Rattle.std.proofs.lemmas.Option.{get_or_from_slice_get, slice_get_cases, slice_get_within}
use Rattle.own_base.specs.declared.value.Value.{Value}
use Rattle.own_base.specs.declared.value.Value.TheVariants as value
use Rattle.own_model.specs.declared.schema.Column.{Column}
use Rattle.own_model.specs.Db.{Row}
use Rattle.query_model.specs.Truth.{cell, is_null}
use Rattle.schema_model.proofs.Places.{same-place, slice_get-append_below, slice_get-push}
use Rattle.state_model.specs.Same.{is_same_value}
use Rattle.state_model.proofs.SameLemmas.{one_value}
use Rattle.commit_check.specs.declared.lent_value.LentValue.{LentValue}
use Rattle.commit_check.specs.declared.lent_value.LentValue.TheVariants.{Int, Text, Sum}
use Rattle.commit_check.specs.ValueCounts.{CountsColumns, CountsRows, count_at, holds, times, value_of}
use Rattle.commit_check.proofs.LentOrder.{lent_cmp, looked_up, ties}

-- one where a test passes
abbrev once : Bool → ℕ
once passes = if passes then 1 else 0

-- One value more is counted.
module _ (old new : BTreeMap LentValue ℕ) (held : LentValue) (had : ℕ) (was : had ≡ count_at old.entries (value_of held)) (updates : Updates lent_cmp old new held (Some (had + 1))) (other : LentValue) where
  added_step : (b : Bool) → is_eq (lent_cmp held other) ≡ b
      → unwrap_or (cond b (Some (had + 1)) (get lent_cmp old other)) 0 ≡ count_at old.entries (value_of other) + once (is_same_value (value_of held) (value_of other))
  added_step true is =
      let same : is_same_value (value_of held) (value_of other) ≡ true = sym (ties held other) ∙ is in
      let one : had ≡ count_at old.entries (value_of other) = was ∙ ap (count_at old.entries) (one_value (value_of held) (value_of other) same) in
      rw same (ap (λ n. n + 1) one)
  added_step false is =
      let same : is_same_value (value_of held) (value_of other) ≡ false = sym (ties held other) ∙ is in
      rw same (looked_up other old.entries ∙ sym (add-zero _))

  pub added : count_at new.entries (value_of other) ≡ count_at old.entries (value_of other) + times (Some held) (value_of other)
  added = sym (looked_up other new.entries) ∙ (ap (λ found. unwrap_or found 0) (updates.0 other) ∙ added_step (is_eq (lent_cmp held other)) refl)

module _ {X : Type 0} (p : X → Bool) (xs : List X) (place : ℕ) (x : X) (is : slice_get xs place ≡ Some x) where
  more_step : (b : Bool) → p x ≡ b → count_by p (take (place + 1) xs) ≡ count_by p (take place xs) + once b
  more_step true passes = count_by_more_yes p xs place x (slice_get_within xs place x is) (ap p (get_or_from_slice_get xs place x x is) ∙ passes)
  more_step false fails = count_by_more_no p xs place x (slice_get_within xs place x is) (ap p (get_or_from_slice_get xs place x x is) ∙ fails) ∙ sym (add-zero _)

  -- one element more counts where it passes
  count_by-more : count_by p (take (place + 1) xs) ≡ count_by p (take place xs) + once (p x)
  count_by-more = more_step (p x) refl

null_times : (cell : Value) (held : LentValue) → is_null cell ≡ true → once (is_same_value cell (value_of held)) ≡ 0
unfolding is_same_value
null_times value.Null (Int number) is = refl
null_times value.Null (Text text) is = refl
null_times value.Null (Sum number) is = refl
null_times (value.Int number) held is = let never : false ≡ true = is in cc
null_times (value.Text bytes) held is = let never : false ≡ true = is in cc
null_times (value.Sum number) held is = let never : false ≡ true = is in cc

-- what a row holds counts where it is the same
times-cell : (found : Option LentValue) (cell : Value) (held : LentValue) → MatchOption found (is_null cell ≡ true) (λ one. value_of one ≡ cell)
    → times found (value_of held) ≡ once (is_same_value cell (value_of held))
times-cell None cell held is = sym (null_times cell held is)
times-cell (Some one) cell held is = ap (λ v. once (is_same_value v (value_of held))) is

module _ (column : ℕ) (rows : List Row) where
  pub counts-none : CountsRows column [] []
  counts-none = record { each = λ held. refl }

  -- with one row more
  pub counts-more : (place : ℕ) (row : Row) (found : Option LentValue) (old new : List (LentValue × ℕ)) → CountsRows column (take place rows) old → slice_get rows place ≡ Some row
      → MatchOption found (is_null (cell row column) ≡ true) (λ one. value_of one ≡ cell row column)
      → ((other : LentValue) → count_at new (value_of other) ≡ count_at old (value_of other) + times found (value_of other)) → CountsRows column (take (place + 1) rows) new
  counts-more place row found old new counts is holds_it more = record {
    each = λ held.
        let all = count_by-more (holds column (value_of held)) rows place row is in
        let one = times-cell found (cell row column) held holds_it in
        let own = more held in
        let before = counts.each held in
        own ∙ (ap (λ n. n + times found (value_of held)) before ∙ (ap (λ n. count_by (holds column (value_of held)) (take place rows) + n) one ∙ sym all));
  }

  -- no value is counted more often than there are rows
  pub counts-few : (entries : List (LentValue × ℕ)) (limit : ℕ) → CountsRows column rows entries → length rows < limit → (other : LentValue) → count_at entries (value_of other) < limit
  counts-few entries limit counts few other =
      let all = counts.each other in let most = count_by-le-length (holds column (value_of other)) rows in omega arith

module _ (columns : List Column) (rows : List Row) (counts : List (BTreeMap LentValue ℕ)) (column : Column) (one : BTreeMap LentValue ℕ) (is : slice_get columns (length counts) ≡ Some column)
    (own : column.unique ≡ true → CountsRows (length counts) rows one.entries) where
  column_last : (number : ℕ) (other : Column) (map : BTreeMap LentValue ℕ) → number ≡ length counts → slice_get columns number ≡ Some other → slice_get (counts ++ one ∷ []) number ≡ Some map
      → other.unique ≡ true → CountsRows number rows map.entries
  column_last number other map last there at unique =
      let same : column ≡ other = same-place columns (length counts) column other is (subst (λ n. slice_get columns n ≡ Some other) last there) in
      let made : one ≡ map = same-place (counts ++ one ∷ []) (length counts) one map (slice_get-push counts one) (subst (λ n. slice_get (counts ++ one ∷ []) n ≡ Some map) last at) in
      subst (λ n. CountsRows n rows map.entries) (sym last) (subst (λ (m : BTreeMap LentValue ℕ). CountsRows (length counts) rows m.entries) made (own (ap (λ (c : Column). c.unique) same ∙ unique)))

  -- the counts of one column more
  pub columns-more : CountsColumns columns rows counts → CountsColumns columns rows (counts ++ one ∷ [])
  columns-more all = record {
    each = λ number other map there at unique.
        elim (slice_get_cases counts number).1 [
          | inl (x, within, found, same) ↦ all.each number other map there (sym (slice_get-append_below counts (one ∷ []) number within) ∙ at) unique
          | inr (past, none) ↦
              let within = slice_get_within (counts ++ one ∷ []) number map at in
              let last : number ≡ length counts = omega (arith, within, length-append counts (one ∷ [])) in
              column_last number other map last there at unique
        ];
  }

-- no column is counted yet
pub columns-none : (columns : List Column) (rows : List Row) → CountsColumns columns rows []
columns-none columns rows = record { each = λ number column map there at unique. let never : ⊥ = cc in absurd never }

-- the columns before a place are counted, and that at the place
pub columns-next : (columns : List Column) (rows : List Row) (old new : List (BTreeMap LentValue ℕ)) (column : Column) (one : BTreeMap LentValue ℕ) (place : ℕ)
    → CountsColumns columns rows old × (length old ≡ place) → slice_get columns place ≡ Some column → (column.unique ≡ true → CountsRows place rows one.entries) → new ≡ old ++ one ∷ []
    → CountsColumns columns rows new × (length new ≡ place + 1)
columns-next columns rows old new column one place before is own made =
    let there : slice_get columns (length old) ≡ Some column = subst (λ n. slice_get columns n ≡ Some column) (sym before.1) is in
    let all = columns-more columns rows old column one there (λ unique. subst (λ n. CountsRows n rows one.entries) (sym before.1) (own unique)) before.0 in
    (rw made all, omega (arith, ap length made, length-append old (one ∷ []), before.1))

-- a lent value is no NULL
held_whole : (held : LentValue) → is_null (value_of held) ≡ false
held_whole (Int number) = refl
held_whole (Text text) = refl
held_whole (Sum number) = refl

-- so it is repeated where it is counted more than once
pub repeated : (column : ℕ) (rows : List Row) (held : LentValue) (value : Value) (entries : List (LentValue × ℕ)) (count : ℕ) → CountsRows column rows entries → value_of held ≡ value
    → count ≡ count_at entries (value_of held) → nat_lt 1 count ≡ (not (is_null value) && nat_lt 1 (count_by (holds column value) rows))
repeated column rows held value entries count counts is counted =
    subst (λ v. nat_lt 1 count ≡ (not (is_null v) && nat_lt 1 (count_by (holds column v) rows))) is (rw (held_whole held) (ap (nat_lt 1) (counted ∙ counts.each held)))
