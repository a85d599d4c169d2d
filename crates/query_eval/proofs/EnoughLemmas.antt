-- Rows that are enough to tell that there are too many.
use Rattle.std.proofs.Common.{◌≡◌, ℕ, Bool, List, [], ◌++◌, Option, None, refl, sym, ap, ◌∙◌, append-nil, append_assoc, drop, map, take}
use Rattle.std.specs.Prelude.{false, true}
use Rattle.std.specs.List.{filter}
use Rattle.std.proofs.lemmas.List.{map-append, take-append-drop}
use Rattle.std.proofs.lemmas.List.Concat.{flat_map-append}
use Rattle.std.proofs.lemmas.List.Elements.{filter-append}
use Rattle.own_model.specs.Db.{Row}
use Rattle.query_model.specs.Query.{joined, pairs_of}
use Rattle.query_eval.specs.Enough.{IsEnough, is_past}

-- all rows are enough
pub all_enough : (most : Option ℕ) (rows : List Row) → IsEnough most rows rows
all_enough most rows = record { rest = []; first = sym (append-nil rows); all = λ few. refl }

-- and where no number is asked for, nothing else is
pub enough_all : (rows kept : List Row) → IsEnough None rows kept → kept ≡ rows
enough_all rows kept enough = sym (enough.first ∙ ap (λ rest. kept ++ rest) (enough.all refl) ∙ append-nil kept)

-- more than are asked for are enough, whatever follows
pub past_enough : (most : Option ℕ) (rows kept rest : List Row) → rows ≡ kept ++ rest → is_past most kept ≡ true → IsEnough most rows kept
past_enough most rows kept rest first past = record { rest = rest; first = first; all = λ few. cc }

-- where no more than that are kept, they are all
pub few_all : (most : Option ℕ) (rows kept : List Row) → IsEnough most rows kept → is_past most kept ≡ false → kept ≡ rows
few_all most rows kept enough few = sym (enough.first ∙ ap (λ rest. kept ++ rest) (enough.all few) ∙ append-nil kept)

-- the pairs with some rows of the left table come before those with the rows behind them
pub joined_front : (passes : Row → Bool) (left_column right_column : ℕ) (lefts others rights : List Row)
    → filter passes (joined left_column right_column (lefts ++ others) rights) ≡ filter passes (joined left_column right_column lefts rights) ++ filter passes (joined left_column right_column others rights)
joined_front passes left_column right_column lefts others rights =
    ap (filter passes) (flat_map-append (pairs_of left_column right_column rights) lefts others)
    ∙ filter-append passes (joined left_column right_column lefts rights) (joined left_column right_column others rights)

-- once there are enough of the first, there are of all
pub enough_of_all : (most : Option ℕ) (passes : Row → Bool) (left_column right_column : ℕ) (gone rest lefts rights kept : List Row)
    → gone ++ rest ≡ lefts → IsEnough most (filter passes (joined left_column right_column gone rights)) kept → is_past most kept ≡ true
    → IsEnough most (filter passes (joined left_column right_column lefts rights)) kept
enough_of_all most passes left_column right_column gone rest lefts rights kept whole enough past =
    past_enough most _ kept (enough.rest ++ filter passes (joined left_column right_column rest rights))
    (ap (λ lefts. filter passes (joined left_column right_column lefts rights)) (sym whole)
    ∙ joined_front passes left_column right_column gone rest rights
    ∙ ap (λ pairs. pairs ++ filter passes (joined left_column right_column rest rights)) enough.first
    ∙ append_assoc kept enough.rest _)
    past

-- once there are enough with some rows, there are with those behind them
pub enough_before : {X : Type 0} (most : Option ℕ) (passes : Row → Bool) (pair : Row → Row) (seen : X → Row) (old kept : List Row) (rights : List X) (index : ℕ)
    → kept ≡ old ++ filter passes (map pair (map seen (take index rights))) → is_past most kept ≡ true → IsEnough most (old ++ filter passes (map pair (map seen rights))) kept
enough_before most passes pair seen old kept rights index is past =
    let front = map pair (map seen (take index rights)) in
    let back = map pair (map seen (drop index rights)) in
    let whole : map pair (map seen rights) ≡ front ++ back =
    ap (λ rights. map pair (map seen rights)) (sym (take-append-drop index rights)) ∙ ap (map pair) (map-append seen (take index rights) (drop index rights)) ∙ map-append pair (map seen (take index rights)) (map seen (drop index rights)) in
    past_enough most _ kept (filter passes back)
    (ap (λ pairs. old ++ filter passes pairs) whole ∙ ap (λ pairs. old ++ pairs) (filter-append passes front back) ∙ sym (append_assoc old (filter passes front) (filter passes back)) ∙ ap (λ front. front ++ filter passes back) (sym is))
    past
