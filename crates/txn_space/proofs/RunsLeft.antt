-- What a walk over the runs of a table has left.
use Rattle.std.proofs.Common.{◌≡◌, ℕ, ◌+◌, ◌<◌, ◌≤◌, List, ◌∷◌, ◌++◌, drop, length, refl, sym, ap, ◌∙◌, arith, length-append, length-drop}
use Rattle.std.proofs.lemmas.List.{drop-drop, drop_at}

module _ {X : Type 0} (behind : ℕ) (rows run rest : List X) (follow : drop behind rows ≡ run ++ rest) where
  -- no run passes the end
  pub run_within : behind < length rows → behind + length run ≤ length rows
  run_within before = omega (arith, length-drop behind rows, length-append run rest, ap length follow)

  -- a run, and what stands behind it
  pub run_taken : run ++ drop (behind + length run) rows ≡ drop behind rows
  run_taken =
      ap (λ others. run ++ others) (sym (drop-drop (length run) behind rows) ∙ ap (drop (length run)) follow ∙ drop_at run rest (length run) refl) ∙ sym follow

-- what is left, where a run is that was refilled, begins with the run's first row
pub first_left : {X : Type 0} (all view run others tail shown : List X) (row : X) → view ≡ all → run ++ shown ≡ view → run ≡ row ∷ others → tail ≡ shown → all ≡ row ∷ (others ++ tail)
first_left all view run others tail shown row seen same cases alike = sym seen ∙ sym same ∙ ap (λ run. run ++ shown) cases ∙ ap (λ rest. row ∷ (others ++ rest)) (sym alike)
