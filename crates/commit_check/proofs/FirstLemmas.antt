-- The first thing that is found in a list, where the list is gone through from its head.
use Rattle.std.proofs.Common.{◌≡◌, ℕ, suc, ◌+◌, ◌≤◌, List, [], ◌∷◌, ◌++◌, drop, length, get_or, inl, inr, refl, sym, ap, ◌∙◌, add-one, arith}
use Rattle.std.proofs.Math.Seq.{drop-cons}
use Rattle.std.specs.Prelude.{Some, None, flat_map, slice_get}
use Rattle.std.proofs.lemmas.Option.{get_or_from_slice_get, slice_get_cases, slice_get_within}
use Rattle.std.proofs.lemmas.List.{drop_all, get_or_past}
use Rattle.own_model.specs.declared.refusal.Refusal.{Refusal}
use Rattle.own_model.specs.declared.schema.TableDef.{TableDef}
use Rattle.own_model.specs.Db.{Db, Row}
use Rattle.own_model.specs.Stored.{rows_at}
use Rattle.state_model.specs.Fault.{first_of, over_rows}
use Rattle.commit_check.specs.Firsts.{Rule, first_by, first_in_table}
use Rattle.subject_model.proofs.TableByTable.{drop-place, past-none}

-- where nothing is found in one list, the first is that of the next
pub first-behind : (xs ys : List Refusal) → first_of xs ≡ None → first_of (xs ++ ys) ≡ first_of ys
first-behind [] ys none = refl
first-behind (x ∷ xs) ys none = let never : ⊥ = cc in absurd never

-- and else that of the one
pub first-before : (xs ys : List Refusal) (fault : Refusal) → first_of xs ≡ Some fault → first_of (xs ++ ys) ≡ Some fault
first-before [] ys fault is = let never : ⊥ = cc in absurd never
first-before (x ∷ xs) ys fault is = is

-- nothing is found before a place
pub record NoneBefore {X : Type 0} (f : X → List Refusal) (xs : List X) (place : ℕ) : Type 0 where
  pub rest : first_of (flat_map f (drop place xs)) ≡ first_of (flat_map f xs)

module _ {X : Type 0} (f : X → List Refusal) (xs : List X) where
  pub none_before-start : NoneBefore f xs 0
  none_before-start = record { rest = refl }

  module _ (place : ℕ) (before : NoneBefore f xs place) where
    pub none_before-more : (x : X) → slice_get xs place ≡ Some x → first_of (f x) ≡ None → NoneBefore f xs (place + 1)
    none_before-more x is none = record {
      rest = sym (first-behind (f x) (flat_map f (drop (place + 1) xs)) none) ∙ (ap (λ left. first_of (flat_map f left)) (sym (drop-place xs place x is)) ∙ before.rest);
    }

    pub none_before-found : (x : X) (fault : Refusal) → slice_get xs place ≡ Some x → first_of (f x) ≡ Some fault → first_of (flat_map f xs) ≡ Some fault
    none_before-found x fault is found =
        sym before.rest ∙ (ap (λ left. first_of (flat_map f left)) (drop-place xs place x is) ∙ first-before (f x) (flat_map f (drop (place + 1) xs)) fault found)

    pub none_before-end : length xs ≤ place → first_of (flat_map f xs) ≡ None
    none_before-end past = sym before.rest ∙ ap (λ left. first_of (flat_map f left)) (drop_all place xs past)

    pub none_before-gone : slice_get xs place ≡ None → first_of (flat_map f xs) ≡ None
    none_before-gone none = none_before-end (past-none xs place none)

-- nothing is found before the table of a number
pub record NoneBeforeTable (rule : Rule) (db : Db) (number : ℕ) : Type 0 where
  pub rest : first_of (over_rows rule number (drop number db.schema.tables) (drop number db.rows)) ≡ first_by rule db

module _ (rule : Rule) where
  over_none : (number : ℕ) (tables : List TableDef) → over_rows rule number tables [] ≡ []
  unfolding over_rows
  over_none number [] = refl
  over_none number (table ∷ tables) = refl

  over-table : (number : ℕ) (table : TableDef) (tables : List TableDef) (rows : List (List Row)) → slice_get tables number ≡ Some table
      → over_rows rule number (drop number tables) (drop number rows)
      ≡ flat_map (rule number table (rows_at rows number)) (rows_at rows number) ++ over_rows rule (number + 1) (drop (number + 1) tables) (drop (number + 1) rows)
  unfolding over_rows
  over-table number table tables rows is =
      elim (slice_get_cases rows number).1 [
        | inl (own, within, there, at) ↦
            rw (drop-place tables number table is, drop-place rows number own there, get_or_from_slice_get rows number own [] there) refl
        | inr (past, none) ↦
            let gone : drop number rows ≡ [] = drop_all number rows past in
            let later : drop (number + 1) rows ≡ [] = drop_all (number + 1) rows (omega arith) in
            let own : get_or rows number [] ≡ [] = get_or_past rows number [] past in
            rw (drop-place tables number table is, gone, later, own) (sym (over_none (number + 1) (drop (number + 1) tables)))
      ]

  module _ (db : Db) where
    pub table-start : NoneBeforeTable rule db 0
    table-start = record { rest = refl }

    module _ (number : ℕ) (before : NoneBeforeTable rule db number) where
      pub table-more : (table : TableDef) → slice_get db.schema.tables number ≡ Some table → first_in_table rule number table (rows_at db.rows number) ≡ None → NoneBeforeTable rule db (number + 1)
      table-more table is none = record {
        rest = sym (first-behind _ _ none) ∙ (ap first_of (sym (over-table number table db.schema.tables db.rows is)) ∙ before.rest);
      }

      pub table-found : (table : TableDef) (fault : Refusal) → slice_get db.schema.tables number ≡ Some table → first_in_table rule number table (rows_at db.rows number) ≡ Some fault
          → first_by rule db ≡ Some fault
      table-found table fault is found = sym before.rest ∙ (ap first_of (over-table number table db.schema.tables db.rows is) ∙ first-before _ _ fault found)

      pub table-end : length db.schema.tables ≤ number → first_by rule db ≡ None
      unfolding over_rows
      table-end past = sym before.rest ∙ ap (λ left. first_of (over_rows rule number left (drop number db.rows))) (drop_all number db.schema.tables past)
