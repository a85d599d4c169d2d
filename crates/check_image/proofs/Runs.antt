-- Rows that are written run by run, and tables one behind another.
use Rattle.std.proofs.Common.{◌≡◌, ℕ, suc, ◌+◌, ◌-◌, ◌≤◌, ◌<◌, List, [], ◌∷◌, ◌++◌, length, length-append, length-drop, drop, refl, sym, ap, subst, ◌∙◌, append_assoc, arith, drop-cons}
use Rattle.std.specs.List.{AllByRecursion, flat_map}
use Rattle.std.proofs.lemmas.Grind.{flat_map-append}
use Rattle.std.proofs.lemmas.List.{append-nil, drop-drop, drop_all, drop_at}
use Rattle.std.proofs.lemmas.List.Concat.{flat_map-cons}
use Rattle.own_model.specs.Db.{Row}
use Rattle.own_model.specs.Stored.{IsRunFrom, rows_at}
use Rattle.schema_model.proofs.Places.{all-append}

all_apart : {A : Type 0} (P : A → Type 0) (xs ys : List A) → AllByRecursion P (xs ++ ys) → AllByRecursion P xs × AllByRecursion P ys
all_apart P [] ys all = (tt, all)
all_apart P (x ∷ xs) ys all = let rest = all_apart P xs ys all.1 in ((all.0, rest.0), rest.1)

module _ (rows : List Row) (at : ℕ) (run : List Row) (runs : IsRunFrom rows at run) where
  -- what is behind a run
  behind : drop (at + length run) rows ≡ runs.rest
  behind = sym (drop-drop (length run) at rows) ∙ ap (drop (length run)) runs.follow ∙ drop_at run runs.rest (length run) refl

  -- a run doesn't go past the end
  pub run_within : at ≤ length rows → at + length run ≤ length rows
  run_within within =
      let parts : length rows - at ≡ length run + length runs.rest = sym (length-drop at rows) ∙ ap length runs.follow ∙ length-append run runs.rest in
      omega (arith, parts)

  pub run_holds : (P : Row → Type 0) → AllByRecursion P (drop at rows) → AllByRecursion P run × AllByRecursion P (drop (at + length run) rows)
  run_holds P all =
      let both = all_apart P run runs.rest (subst (AllByRecursion P) runs.follow all) in
      (both.0, subst (AllByRecursion P) (sym behind) both.1)

  pub run_written : (spelling : Row → List ℕ) (out more total : List ℕ) → more ≡ out ++ flat_map spelling run → out ++ flat_map spelling (drop at rows) ≡ total
      → more ++ flat_map spelling (drop (at + length run) rows) ≡ total
  run_written spelling out more total written so_far =
      let apart : flat_map spelling (drop at rows) ≡ flat_map spelling run ++ flat_map spelling runs.rest = ap (flat_map spelling) runs.follow ∙ flat_map-append spelling run runs.rest in
      ap (λ (front : List ℕ). front ++ flat_map spelling (drop (at + length run) rows)) written
      ∙ append_assoc out (flat_map spelling run) (flat_map spelling (drop (at + length run) rows))
      ∙ ap (λ (rest : List Row). out ++ (flat_map spelling run ++ flat_map spelling rest)) behind
      ∙ ap (λ (tail : List ℕ). out ++ tail) (sym apart) ∙ so_far

  pub run_typed : (P : Row → Type 0) → AllByRecursion P run → (AllByRecursion P (drop at rows) → AllByRecursion P rows) → AllByRecursion P (drop (at + length run) rows) → AllByRecursion P rows
  run_typed P own whole rest = whole (subst (AllByRecursion P) (sym runs.follow) (all-append P run runs.rest own (subst (AllByRecursion P) behind rest)))

-- the table at a place, and those after it
module _ (tables : List (List Row)) (at : ℕ) (below : at < length tables) where
  at_place : drop at tables ≡ rows_at tables at ∷ drop (at + 1) tables
  at_place = let next : at + 1 ≡ suc at = omega arith in rw next (drop-cons tables at [] below)

  pub table_holds : (P : List Row → Type 0) → AllByRecursion P (drop at tables) → P (rows_at tables at) × AllByRecursion P (drop (at + 1) tables)
  table_holds P all = let own = subst (AllByRecursion P) at_place all in (own.0, own.1)

  pub table_written : (spelling : List Row → List ℕ) (out more total : List ℕ) → more ≡ out ++ spelling (rows_at tables at) → out ++ flat_map spelling (drop at tables) ≡ total
      → more ++ flat_map spelling (drop (at + 1) tables) ≡ total
  table_written spelling out more total written so_far =
      let apart : flat_map spelling (drop at tables) ≡ spelling (rows_at tables at) ++ flat_map spelling (drop (at + 1) tables) =
      ap (flat_map spelling) at_place ∙ flat_map-cons spelling (rows_at tables at) (drop (at + 1) tables) in
      ap (λ (front : List ℕ). front ++ flat_map spelling (drop (at + 1) tables)) written
      ∙ append_assoc out (spelling (rows_at tables at)) (flat_map spelling (drop (at + 1) tables))
      ∙ ap (λ (tail : List ℕ). out ++ tail) (sym apart) ∙ so_far

  pub table_typed : (P : List Row → Type 0) → P (rows_at tables at) → (AllByRecursion P (drop at tables) → AllByRecursion P tables) → AllByRecursion P (drop (at + 1) tables) → AllByRecursion P tables
  table_typed P own whole rest = whole (subst (AllByRecursion P) (sym at_place) (own, rest))

-- none is left behind the last
pub all_written : {A : Type 0} (spelling : A → List ℕ) (xs : List A) (at : ℕ) (out total : List ℕ) → length xs ≤ at → out ++ flat_map spelling (drop at xs) ≡ total → out ≡ total
all_written spelling xs at out total past so_far =
    sym (append-nil out) ∙ ap (λ (tail : List ℕ). out ++ tail) (sym (ap (flat_map spelling) (drop_all at xs past))) ∙ so_far

pub all_typed : {A : Type 0} (P : A → Type 0) (xs : List A) (at : ℕ) → length xs ≤ at → (AllByRecursion P (drop at xs) → AllByRecursion P xs) → AllByRecursion P xs
all_typed P xs at past whole = whole (subst (AllByRecursion P) (sym (drop_all at xs past)) tt)
