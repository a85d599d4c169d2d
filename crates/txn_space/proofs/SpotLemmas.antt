-- Rows around the place of a key, among those from a place on.
use Rattle.std.proofs.Common.{◌≡◌, refl, sym, ◌∙◌, ap, subst, ℕ, zero, suc, ◌+◌, ◌-◌, ◌≤◌, List, [], ◌∷◌, Option, Some, None, take, drop, arith}
use Rattle.std.specs.Prelude.{true, false, slice_get}
use Rattle.std.specs.Ordering.{is_eq}
use Rattle.std.proofs.lemmas.List.{take-append-drop}
use Rattle.own_base.specs.Key.{key_cmp}
use Rattle.own_base.specs.declared.value.Key.{Key}
use Rattle.own_model.specs.declared.schema.TableDef.{TableDef}
use Rattle.own_model.specs.Db.{Row, key_of}
use Rattle.own_model.proofs.KeyOrder.{key_order}
use Rattle.page_model.specs.Changed.{above_key}
use Rattle.page_model.specs.Place.{IsPlaceOf}
use Rattle.page_model.specs.Rising.{IsRising}
use Rattle.page_model.proofs.RisingLemmas.{rising_back}
use Rattle.page_model.proofs.SplitLemmas.{above_here, above_none, above_other}

next : (i j : ℕ) → suc (j + i) ≡ j + suc i
next i j = omega arith

module _ {X : Type 0} where
  drop_none : (j : ℕ) → ◌≡◌ {A = List X} (drop j []) []
  drop_none zero = refl
  drop_none (suc j) = refl

  -- what is left behind two places
  pub dropped_twice : (i j : ℕ) (xs : List X) → drop j (drop i xs) ≡ drop (j + i) xs
  dropped_twice zero j xs = ap (λ n. drop n xs) (omega arith)
  dropped_twice (suc i) j [] = drop_none j ∙ sym (drop_none (j + suc i))
  dropped_twice (suc i) j (x ∷ xs) = dropped_twice i j xs ∙ ap (λ n. drop n (x ∷ xs)) (next i j)

  pub dropped_behind : (from place : ℕ) (xs : List X) → from ≤ place → drop (place - from) (drop from xs) ≡ drop place xs
  dropped_behind from place xs behind = let sums : place - from + from ≡ place = omega arith in dropped_twice from (place - from) xs ∙ ap (λ n. drop n xs) sums

  get_none : (j : ℕ) → ◌≡◌ {A = Option X} (slice_get [] j) None
  get_none zero = refl
  get_none (suc j) = refl

  got_behind : (i j : ℕ) (xs : List X) → slice_get (drop i xs) j ≡ slice_get xs (j + i)
  got_behind zero j xs = ap (slice_get xs) (omega arith)
  got_behind (suc i) j [] = get_none j ∙ sym (get_none (j + suc i))
  got_behind (suc i) j (x ∷ xs) = got_behind i j xs ∙ ap (slice_get (x ∷ xs)) (next i j)

  pub got_from : (from place : ℕ) (xs : List X) → from ≤ place → slice_get (drop from xs) (place - from) ≡ slice_get xs place
  got_from from place xs behind = let sums : place - from + from ≡ place = omega arith in got_behind from (place - from) xs ∙ ap (slice_get xs) sums

module _ (table : TableDef) (key : Key) (rows : List Row) (from place : ℕ) (behind : from ≤ place) (rising : IsRising (key_of table) key_cmp rows) (is : IsPlaceOf (key_of table) key_cmp key (drop from rows) (place - from)) where
  rest_rises : IsRising (key_of table) key_cmp (drop from rows)
  rest_rises = rising_back (key_of table) key_cmp (take from rows) (drop from rows) (subst (IsRising (key_of table) key_cmp) (sym (take-append-drop from rows)) rising)

  -- the key's row stands there
  pub spot_here : (row : Row) → slice_get rows place ≡ Some row → is_eq (key_cmp (key_of table row) key) ≡ true → above_key (key_of table) key_cmp key (drop from rows) ≡ drop (place + 1) rows
  spot_here row here equal =
      let sums : suc (place - from) + from ≡ place + 1 = omega arith in
      above_here (key_of table) key_order key (drop from rows) (place - from) row is rest_rises (got_from from place rows behind ∙ here) equal
      ∙ (dropped_twice from (suc (place - from)) rows ∙ ap (λ n. drop n rows) sums)

  -- another row stands there
  pub spot_other : (row : Row) → slice_get rows place ≡ Some row → is_eq (key_cmp (key_of table row) key) ≡ false → above_key (key_of table) key_cmp key (drop from rows) ≡ drop place rows
  spot_other row here other =
      above_other (key_of table) key_order key (drop from rows) (place - from) row is rest_rises (got_from from place rows behind ∙ here) other
      ∙ dropped_behind from place rows behind

  -- no row stands there
  pub spot_none : slice_get rows place ≡ None → above_key (key_of table) key_cmp key (drop from rows) ≡ drop place rows
  spot_none none =
      above_none (key_of table) key_order key (drop from rows) (place - from) is (got_from from place rows behind ∙ none)
      ∙ dropped_behind from place rows behind
