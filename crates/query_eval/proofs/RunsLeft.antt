-- The runs of a table's rows.
use Rattle.std.proofs.Common.{◌≡◌, ℕ, ◌+◌, ◌<◌, ◌≤◌, List, ◌++◌, drop, length, refl, sym, ap, ◌∙◌, arith, length-append, length-drop}
use Rattle.std.proofs.lemmas.List.{drop-drop, drop_at}

-- no run passes the end
pub run_within : {X : Type 0} (behind : ℕ) (rows run rest : List X) → drop behind rows ≡ run ++ rest → behind < length rows → behind + length run ≤ length rows
run_within behind rows run rest follow before = omega (arith, length-drop behind rows, length-append run rest, ap length follow)

-- a run, and what stands behind it
pub run_taken : {X : Type 0} (behind : ℕ) (rows run rest : List X) → drop behind rows ≡ run ++ rest → run ++ drop (behind + length run) rows ≡ drop behind rows
run_taken behind rows run rest follow =
    ap (λ others. run ++ others) (sym (drop-drop (length run) behind rows) ∙ ap (drop (length run)) follow ∙ drop_at run rest (length run) refl) ∙ sym follow
