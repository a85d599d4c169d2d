-- Rows run by run.
use Rattle.std.proofs.Common.{◌≡◌, ℕ, ◌+◌, ◌-◌, ◌≤◌, List, ◌++◌, Bool, length, take, sym, ap, ◌∙◌, arith, length-append, length-drop}
use Rattle.std.specs.List.{filter}
use Rattle.std.proofs.Math.Seq.{take-append-add, take-append_seam}
use Rattle.std.proofs.lemmas.List.{length-take-le, take-append-drop}
use Rattle.std.proofs.lemmas.List.Elements.{filter-append}
use Rattle.own_model.specs.Db.{Row}
use Rattle.own_model.specs.Stored.{IsRunFrom}

module _ (rows : List Row) (at : ℕ) (run : List Row) (within : at ≤ length rows) (runs : IsRunFrom rows at run) where
  -- a run doesn't go past the end
  pub run_within : at + length run ≤ length rows
  run_within =
      let parts : length rows - at ≡ length run + length runs.rest = sym (length-drop at rows) ∙ ap length runs.follow ∙ length-append run runs.rest in
      omega (arith, parts)

  -- the rows up to its end
  take_run : take (at + length run) rows ≡ take at rows ++ run
  take_run =
      let front : List Row = take at rows in
      let whole : front ++ (run ++ runs.rest) ≡ rows = ap (λ l. front ++ l) (sym runs.follow) ∙ take-append-drop at rows in
      let long : length front ≡ at = length-take-le at rows within in
      let taken : take (length front + length run) (front ++ (run ++ runs.rest)) ≡ front ++ run = take-append-add front (run ++ runs.rest) (length run) ∙ ap (λ l. front ++ l) (take-append_seam run runs.rest) in
      rw (long, whole) at taken

  filter_run : (p : Row → Bool) → filter p (take (at + length run) rows) ≡ filter p (take at rows) ++ filter p run
  filter_run p = ap (filter p) take_run ∙ filter-append p (take at rows) run

  -- what is kept up to its end
  pub kept_run : (p : Row → Bool) (kept more : List Row) → kept ≡ filter p (take at rows) → more ≡ kept ++ filter p run → more ≡ filter p (take (at + length run) rows)
  kept_run p kept more before is = is ∙ ap (λ l. l ++ filter p run) before ∙ sym (filter_run p)
