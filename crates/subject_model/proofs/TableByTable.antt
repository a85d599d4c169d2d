-- The rows of a database, table by table.
use Rattle.std.proofs.Common.{◌≡◌, ℕ, suc, ◌+◌, ◌≤◌, List, [], ◌∷◌, ◌++◌, drop, length, get_or, inl, inr, refl, ap, sym, ◌∙◌, add-one, drop-cons, arith}
use Rattle.std.specs.Prelude.{Some, None, slice_get}
use Rattle.std.proofs.lemmas.List.{drop_all, get_or_past}
use Rattle.std.proofs.lemmas.Option.{get_or_from_slice_get, slice_get_cases, slice_get_within}
use Rattle.own_model.specs.declared.schema.TableDef.{TableDef}
use Rattle.own_model.specs.Db.{Row}
use Rattle.own_model.specs.Stored.{rows_at}
use Rattle.subject_model.specs.Named.{rows_from, rows_in}

-- where nothing stands the list has ended
pub past-none : {X : Type 0} (xs : List X) (place : ℕ) → slice_get xs place ≡ None → length xs ≤ place
past-none xs place none = elim (slice_get_cases xs place).1 [ inl (x, within, is, at) ↦ let never : ⊥ = cc in absurd never | inr (past, gone) ↦ past ]

-- tables without lists of rows have none
pub from_none : (number : ℕ) (tables : List TableDef) → rows_from number tables [] ≡ []
unfolding rows_from
from_none number [] = refl
from_none number (table ∷ tables) = refl

-- what is left from a place on begins with what stands there
pub drop-place : {X : Type 0} (xs : List X) (place : ℕ) (x : X) → slice_get xs place ≡ Some x → drop place xs ≡ x ∷ drop (place + 1) xs
drop-place xs place x is = rw add-one (drop-cons xs place x (slice_get_within xs place x is) ∙ ap (λ y. y ∷ drop (suc place) xs) (get_or_from_slice_get xs place x x is))

-- the rows from a table on are its own, and those from the next one on
pub from-table : (number : ℕ) (table : TableDef) (tables : List TableDef) (rows : List (List Row)) → slice_get tables number ≡ Some table
    → rows_from number (drop number tables) (drop number rows) ≡ rows_in number table (rows_at rows number) ++ rows_from (number + 1) (drop (number + 1) tables) (drop (number + 1) rows)
unfolding rows_from
from-table number table tables rows is =
    elim (slice_get_cases rows number).1 [
      | inl (own, within, there, at) ↦
          rw (drop-place tables number table is, drop-place rows number own there, get_or_from_slice_get rows number own [] there) refl
      | inr (past, none) ↦
          let gone : drop number rows ≡ [] = drop_all number rows past in
          let later : drop (number + 1) rows ≡ [] = drop_all (number + 1) rows (omega arith) in
          let own : get_or rows number [] ≡ [] = get_or_past rows number [] past in
          rw (drop-place tables number table is, gone, later, own) (sym (from_none (number + 1) (drop (number + 1) tables)))
    ]
