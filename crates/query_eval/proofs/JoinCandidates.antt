-- The pairs of a join that WHERE keeps, of some rows of the left table.
use Rattle.std.proofs.Common.{◌≡◌, ℕ, ◌+◌, ◌<◌, zero, suc, List, [], ◌∷◌, ◌++◌, Bool, true, false, cond, ◌||◌, Option, Some, drop, length, map, take, refl, sym, ap, ◌∙◌, subst, arith, get_or}
use Rattle.std.specs.Prelude.{◌≢◌}
use Rattle.std.specs.List.{AllByRecursion as Each, filter, list_any}
use Rattle.std.proofs.lemmas.List.{map-append, take-append-drop, take_more}
use Rattle.std.proofs.lemmas.List.Elements.{All-head, All-tail, filter-append}
use Rattle.own_base.specs.declared.value.Value.{Value}
use Rattle.own_base.specs.declared.value.Value.TheVariants.{Null}
use Rattle.own_model.specs.declared.bound.BoundCond.{BoundCond}
use Rattle.own_model.specs.declared.schema.TableDef.{TableDef}
use Rattle.own_model.specs.Db.{Row}
use Rattle.query_model.specs.Query.{joined, meet, pairs_of}
use Rattle.query_model.specs.Stored.{AreStored, IsStoredRow}
use Rattle.query_model.specs.Truth.{cell, keeps}
use Rattle.query_eval.specs.Candidates.{AreCandidates, IsSeenWhole}
use Rattle.query_eval.specs.Enough.{IsEnough, is_past}
use Rattle.query_eval.specs.KeyRange.{row_in}
use Rattle.query_eval.specs.LookedUp.{is_in_pair}
use Rattle.query_eval.specs.WholeRows.{IsWhole}
use Rattle.query_eval.proofs.EnoughLemmas.{enough_of_all, few_all}
use Rattle.query_eval.proofs.JoinedRows.{joined-more}

-- what stands in a column of a row stands there in a pair of it
cell_in_pair : (left right : Row) (column : ℕ) → column < length left → cell (left ++ right) column ≡ cell left column
cell_in_pair [] right column within = absurd (omega arith)
cell_in_pair (value ∷ left) right zero within = refl
cell_in_pair (value ∷ left) right (suc column) within = cell_in_pair left right column (omega arith)

-- and where it isn't NULL
some_in_pair : (left right : Row) (column : ℕ) → cell left column ≢ Null → cell (left ++ right) column ≡ cell left column
some_in_pair [] right column some = absurd (some refl)
some_in_pair (value ∷ left) right zero some = refl
some_in_pair (value ∷ left) right (suc column) some = some_in_pair left right column some

-- what holds of each of some rows holds of the one at a place
each_in : (P : Row → Type 0) (rows : List Row) (k : ℕ) → k < length rows → Each P rows → P (row_in rows k)
each_in P [] k within all = absurd (omega arith)
each_in P (row ∷ rows) zero within all = all.0
each_in P (row ∷ rows) (suc k) within all = each_in P rows k (omega arith) all.1

module _ (passes : Row → Bool) (left : Row) where
  -- where one of the pairs passes there is a row with which it does
  one_passes : (rights : List Row) → list_any passes (map (λ right. left ++ right) rights) ≡ true → (right : Row) × (passes (left ++ right) ≡ true)
  one_passes [] is = cc
  one_passes (right ∷ rights) is = by (passes (left ++ right)) refl (λ more. one_passes rights more)
    where
      by : (b : Bool) → passes (left ++ right) ≡ b → (list_any passes (map (λ right. left ++ right) rights) ≡ true → (right : Row) × (passes (left ++ right) ≡ true)) → (right : Row) × (passes (left ++ right) ≡ true)
      by true here more = (right, here)
      by false here more = more (rw here at is)

-- where none of some passes, none is kept
none_kept : (passes : Row → Bool) (rows : List Row) → list_any passes rows ≡ false → filter passes rows ≡ []
none_kept passes [] is = refl
none_kept passes (row ∷ rows) is = by (passes row) refl (λ none. none_kept passes rows none)
  where
    by : (b : Bool) → passes row ≡ b → (list_any passes rows ≡ false → filter passes rows ≡ []) → filter passes (row ∷ rows) ≡ []
    by true here more = let never : true ≡ false = (rw here at is) in cc
    by false here more = rw here (more (rw here at is))

-- one of some rows holds no sums where none does
pub stored_item : {X : Type 0} (seen : X → Row) (lefts : List X) (i : ℕ) (left : X) → left ≡ get_or lefts i left → i < length lefts → AreStored (map seen lefts) → IsStoredRow (seen left)
stored_item seen [] i left is within stored = absurd (omega arith)
stored_item {X} seen (x ∷ xs) zero left is within stored = subst (λ (own : X). IsStoredRow (seen own)) (sym is) (All-head IsStoredRow (seen x) (map seen xs) stored)
stored_item seen (x ∷ xs) (suc i) left is within stored = stored_item seen xs i left is (omega arith) (All-tail IsStoredRow (seen x) (map seen xs) stored)

-- a row of the left table with a pair that WHERE keeps is seen in that pair
pair_is_seen : (table : TableDef) (condition : Option BoundCond) (left_column right_column : ℕ) (rights lefts : List Row) → Each (IsWhole table) lefts
    → IsSeenWhole table (keeps condition) lefts (is_in_pair condition left_column right_column rights)
pair_is_seen table condition left_column right_column rights lefts whole k within passed =
    let left = row_in lefts k in
    let one = one_passes (keeps condition) left (filter (meet left_column right_column left) rights) passed in
    let own = each_in (IsWhole table) lefts k within whole in
    (left ++ one.0, (λ column inside. cell_in_pair left one.0 column (omega (arith, own.wide))), some_in_pair left one.0 table.key.0 own.keyed, one.1)

module _ (condition : Option BoundCond) (left_column right_column : ℕ) (rights : List Row) where
  abbrev passes : Row → Bool
  passes = keeps condition

  abbrev in_pair : Row → Bool
  in_pair = is_in_pair condition left_column right_column rights

  abbrev kept_of : List Row → List Row
  kept_of lefts = filter passes (joined left_column right_column lefts rights)

  -- the pairs of one row, and those of the rows behind it
  kept-first : (left : Row) (lefts : List Row) → kept_of (left ∷ lefts) ≡ filter passes (pairs_of left_column right_column rights left) ++ kept_of lefts
  kept-first left lefts = filter-append passes (pairs_of left_column right_column rights left) (joined left_column right_column lefts rights)

  -- rows without such a pair may be left out
  kept_of_passing : (lefts : List Row) → kept_of lefts ≡ kept_of (filter in_pair lefts)
  kept_of_passing [] = refl
  kept_of_passing (left ∷ lefts) = kept-first left lefts ∙ by (in_pair left) refl (kept_of_passing lefts)
    where
      by : (b : Bool) → in_pair left ≡ b → kept_of lefts ≡ kept_of (filter in_pair lefts)
          → filter passes (pairs_of left_column right_column rights left) ++ kept_of lefts ≡ kept_of (cond b (left ∷ filter in_pair lefts) (filter in_pair lefts))
      by true here more = ap (λ (rest : List Row). filter passes (pairs_of left_column right_column rights left) ++ rest) more ∙ sym (kept-first left (filter in_pair lefts))
      by false here more = ap (λ (front : List Row). front ++ kept_of lefts) (none_kept passes (pairs_of left_column right_column rights left) here) ∙ more

  -- candidates have all pairs that WHERE keeps
  pub pairs_of_candidates : (table : TableDef) (all some : List Row) → Each (IsWhole table) all → AreCandidates table condition all some → kept_of some ≡ kept_of all
  pairs_of_candidates table all some whole are =
      kept_of_passing some ∙ ap kept_of (are.each in_pair (pair_is_seen table condition left_column right_column rights all whole)) ∙ sym (kept_of_passing all)

  module _ {X : Type 0} (most : Option ℕ) (seen : X → Row) (lefts : List X) (kept : List Row) (at : ℕ) (enough : IsEnough most (kept_of (map seen (take at lefts))) kept) where
    -- the pairs of one row more
    pub enough-more : (left : X) (more : List Row) → left ≡ get_or lefts at left → at < length lefts → is_past most kept ≡ false
        → IsEnough most (kept ++ filter passes (pairs_of left_column right_column rights (seen left))) more → IsEnough most (kept_of (map seen (take (at + 1) lefts))) more
    enough-more left more is within few added =
        let next : map seen (take (at + 1) lefts) ≡ map seen (take at lefts) ++ seen left ∷ [] =
        ap (map seen) (take_more lefts at left within ∙ ap (λ (row : X). take at lefts ++ row ∷ []) (sym is)) ∙ map-append seen (take at lefts) (left ∷ []) in
        subst (λ (pairs : List Row). IsEnough most pairs more)
        (ap (λ (front : List Row). front ++ filter passes (pairs_of left_column right_column rights (seen left))) (few_all most (kept_of (map seen (take at lefts))) kept enough few)
        ∙ sym (filter-append passes (joined left_column right_column (map seen (take at lefts)) rights) (pairs_of left_column right_column rights (seen left)))
        ∙ ap (filter passes) (sym (joined-more left_column right_column (map seen (take at lefts)) rights (seen left)))
        ∙ ap kept_of (sym next))
        added

    -- enough with the rows so far are enough with all
    pub enough_past : is_past most kept ≡ true → IsEnough most (kept_of (map seen lefts)) kept
    enough_past past =
        enough_of_all most passes left_column right_column (map seen (take at lefts)) (map seen (drop at lefts)) (map seen lefts) rights kept
        (sym (map-append seen (take at lefts) (drop at lefts)) ∙ ap (map seen) (take-append-drop at lefts)) enough past
