-- The pairs of a join, a row of the left table after another.
use Rattle.std.proofs.Common.{◌≡◌, ℕ, ◌<◌, Bool, List, [], ◌∷◌, ◌++◌, get_or, length, map, refl, sym, ap, ◌∙◌, subst, arith, append-nil, length-append}
use Rattle.std.specs.List.{filter}
use Rattle.std.proofs.lemmas.List.{get_or_at}
use Rattle.std.proofs.lemmas.List.Concat.{flat_map-append}
use Rattle.std.proofs.lemmas.List.Elements.{All-get_or, filter-append}
use Rattle.own_model.specs.Db.{Row}
use Rattle.query_model.specs.Query.{joined, pairs_of}
use Rattle.query_model.specs.Truth.{cell}
use Rattle.query_eval.specs.Meetings.{meeting}
use Rattle.query_model.specs.Stored.{AreStored, IsStoredRow}

-- the pairs with one row more of the left table
pub joined-more : (left_column right_column : ℕ) (lefts rights : List Row) (left : Row)
    → joined left_column right_column (lefts ++ left ∷ []) rights ≡ joined left_column right_column lefts rights ++ pairs_of left_column right_column rights left
joined-more left_column right_column lefts rights left =
    flat_map-append (pairs_of left_column right_column rights) lefts (left ∷ [])
    ∙ ap (λ pairs. joined left_column right_column lefts rights ++ pairs) (append-nil (pairs_of left_column right_column rights left))

-- those of them that are kept
pub kept-more : (passes : Row → Bool) (left_column right_column : ℕ) (lefts rights : List Row) (left : Row) (kept met more : List Row)
    → kept ≡ filter passes (joined left_column right_column lefts rights) → met ≡ meeting (cell left left_column) right_column rights
    → more ≡ kept ++ filter passes (map (λ right. left ++ right) met)
    → more ≡ filter passes (joined left_column right_column (lefts ++ left ∷ []) rights)
kept-more passes left_column right_column lefts rights left kept met more before here so =
    so ∙ ap (λ kept. kept ++ filter passes (map (λ right. left ++ right) met)) before
    ∙ ap (λ met. filter passes (joined left_column right_column lefts rights) ++ filter passes (map (λ right. left ++ right) met)) here
    ∙ sym (filter-append passes (joined left_column right_column lefts rights) (pairs_of left_column right_column rights left))
    ∙ ap (filter passes) (sym (joined-more left_column right_column lefts rights left))

-- the next row of a table holds no sums
pub next-stored : (gone : List Row) (row : Row) (rest all : List Row) → gone ++ row ∷ rest ≡ all → AreStored all → IsStoredRow row
next-stored gone row rest all whole stored =
    let within : length gone < length all = omega (arith, length-append gone (row ∷ rest), ap length whole) in
    let at : get_or all (length gone) row ≡ row = ap (λ (rows : List Row). get_or rows (length gone) row) (sym whole) ∙ get_or_at gone row rest row (length gone) refl in
    subst IsStoredRow at (All-get_or IsStoredRow all (length gone) row within stored)
