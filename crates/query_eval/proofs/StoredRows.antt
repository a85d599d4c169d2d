-- The rows of a source hold no sums.
use Rattle.std.proofs.Common.{◌≡◌, ℕ, List, [], ◌∷◌, ◌++◌, Bool, filter, subst, sym}
use Rattle.std.specs.List.{All}
use Rattle.std.proofs.lemmas.List.Elements.{All-append, All-filter, All-map, All-nil, All-head, All-tail}
use Rattle.own_model.specs.declared.bound.Source1.{Source1}
use Rattle.own_model.specs.declared.bound.Source1.TheVariants.{Pair, Table, View}
use Rattle.own_model.specs.Db.{Row}
use Rattle.own_model.specs.Stored.{rows_at}
use Rattle.query_model.specs.Query.{base_rows, joined, meet, pairs_of}
use Rattle.query_model.specs.Stored.{AreStored, IsStored, IsStoredRow}
use Rattle.query_eval.proofs.TableRows.{stored_at}

-- nor do the pairs of a row
pairs-stored : (left_column right_column : ℕ) (rights : List Row) (left : Row) → IsStoredRow left → AreStored rights → AreStored (pairs_of left_column right_column rights left)
pairs-stored left_column right_column rights left this stored =
    let met : AreStored (filter (meet left_column right_column left) rights) = All-filter (meet left_column right_column left) IsStoredRow rights stored in
    All-map IsStoredRow (λ (right : Row). left ++ right) (filter (meet left_column right_column left) rights) (λ k d within. All-append IsStored left _ this (met k d within))

-- nor do those of a join
joined-stored : (left_column right_column : ℕ) (lefts rights : List Row) → AreStored lefts → AreStored rights → AreStored (joined left_column right_column lefts rights)
joined-stored left_column right_column [] rights these stored = All-nil IsStoredRow
joined-stored left_column right_column (left ∷ lefts) rights these stored =
    All-append IsStoredRow (pairs_of left_column right_column rights left) (joined left_column right_column lefts rights)
    (pairs-stored left_column right_column rights left (All-head IsStoredRow left lefts these) stored)
    (joined-stored left_column right_column lefts rights (All-tail IsStoredRow left lefts these) stored)

base-stored : (rows : List (List Row)) (source : Source1) → All AreStored rows → AreStored (base_rows rows source)
base-stored rows (Table table) stored = stored_at rows table.0 stored
base-stored rows (View view) stored = All-nil IsStoredRow
base-stored rows (Pair left right left_column right_column) stored =
    joined-stored left_column.0 right_column.0 (rows_at rows left.0) (rows_at rows right.0) (stored_at rows left.0 stored) (stored_at rows right.0 stored)

-- nor do those that are kept
pub kept-stored : (passes : Row → Bool) (rows : List (List Row)) (source : Source1) (kept : List Row) → All AreStored rows → kept ≡ filter passes (base_rows rows source) → AreStored kept
kept-stored passes rows source kept stored is = subst AreStored (sym is) (All-filter passes IsStoredRow (base_rows rows source) (base-stored rows source stored))
