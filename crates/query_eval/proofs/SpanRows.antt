-- The rows of a span, run by run.
use Rattle.std.proofs.Common.{◌≡◌, ℕ, ◌+◌, ◌<◌, ◌≤◌, List, [], ◌++◌, Bool, true, false, drop, length, take, refl, sym, ap, ◌∙◌, subst, append-nil, append_assoc, arith, get_or-drop, get_or-take, length-drop, length-take}
use Rattle.std.specs.List.{filter}
use Rattle.std.proofs.lemmas.List.{take-append-drop}
use Rattle.std.proofs.lemmas.List.Elements.{All-from_get_or, filter-append, recursion_from_All}
use Rattle.own_model.specs.Db.{Row}
use Rattle.own_model.specs.Stored.{IsRunFrom}
use Rattle.query_model.proofs.SortedRows.{none_pass}
use Rattle.query_eval.specs.declared.key_range.Span.{Span}
use Rattle.query_eval.specs.KeyRange.{IsSpanOf, row_in}

module _ (passes : Row → Bool) (rows : List Row) (span : Span) (is : IsSpanOf passes rows span) where
  -- no row before the span passes
  front_fails : (k : ℕ) (b : Bool) → k < span.from → passes (row_in rows k) ≡ b → passes (row_in rows k) ≡ false
  front_fails k true before passed = let begins = is.begins in let inside = (is.inside k (omega arith) passed).0 in absurd (omega arith)
  front_fails k false before passed = passed

  pub front_gives_none : [] ≡ filter passes (take span.from rows)
  front_gives_none =
      let begins = is.begins in
      sym (none_pass passes (take span.from rows) (recursion_from_All _ (take span.from rows) (All-from_get_or (λ row. passes row ≡ false) (take span.from rows) [] (λ k within.
      let before : k < span.from = omega (arith, length-take span.from rows) in
      subst (λ row. passes row ≡ false) (sym (get_or-take span.from rows k [] before)) (front_fails k _ before refl)))))

  -- nor does one behind it
  back_fails : (at k : ℕ) (b : Bool) → span.upto ≤ at → at + k < length rows → passes (row_in rows (at + k)) ≡ b → passes (row_in rows (at + k)) ≡ false
  back_fails at k true past within passed = let inside = (is.inside (at + k) within passed).1 in absurd (omega arith)
  back_fails at k false past within passed = passed

  back_gives_none : (at : ℕ) → span.upto ≤ at → filter passes (drop at rows) ≡ []
  back_gives_none at past =
      none_pass passes (drop at rows) (recursion_from_All _ (drop at rows) (All-from_get_or (λ row. passes row ≡ false) (drop at rows) [] (λ k within.
      subst (λ row. passes row ≡ false) (sym (get_or-drop at rows k [])) (back_fails at k _ past (omega (arith, length-drop at rows)) refl))))

  -- so what is kept up to its end is all
  pub kept_of_span : (at : ℕ) → span.upto ≤ at → filter passes (take at rows) ≡ filter passes rows
  kept_of_span at past =
      sym (ap (filter passes) (sym (take-append-drop at rows)) ∙ filter-append passes (take at rows) (drop at rows) ∙ rw (back_gives_none at past) (append-nil (filter passes (take at rows))))

-- the front of a run is a run
pub first_run : (rows : List Row) (at most : ℕ) (run : List Row) → 0 < most → IsRunFrom rows at run → IsRunFrom rows at (take most run)
first_run rows at most run some runs =
    record {
      rest = drop most run ++ runs.rest;
      follow = runs.follow ∙ ap (λ l. l ++ runs.rest) (sym (take-append-drop most run)) ∙ append_assoc (take most run) (drop most run) runs.rest;
      some = λ there. let more = runs.some there in omega (arith, length-take most run);
    }
