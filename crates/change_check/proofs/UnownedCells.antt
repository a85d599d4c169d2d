-- Rows without an owner, and how what is found is taken further by them.
use Rattle.std.proofs.Common.{◌≡◌, ℕ, ◌+◌, ◌<◌, List, Bool, true, false, not, length, cond, inl, inr, refl, sym, ap, ◌∙◌, subst, arith}
use Rattle.std.specs.Prelude.{◌==◌, Option, None, Some, IfSome, slice_get}
use Rattle.std.proofs.lemmas.Bool.{cases_lt, eqb-true, false_from_ne_true}
use Rattle.std.proofs.lemmas.List.{length-map}
use Rattle.own_base.specs.declared.row_name.RowName.{RowName}
use Rattle.own_model.specs.Db.{Db, IsOrdered}
use Rattle.schema_model.specs.OwnerSchema.{IsOwnerSchema}
use Rattle.schema_model.proofs.Places.{same-place}
use Rattle.subject_model.specs.Owners.{has_owner, owners}
use Rattle.state_model.proofs.OwnerCounts.{no-owners, some-owners}
use Rattle.link_model.specs.Whose.{as_subject, owners_at}
use Rattle.change_check.specs.declared.cell_name.CellName.{CellName}
use Rattle.change_check.specs.CellOrder.{cell_at, is_behind}
use Rattle.change_check.specs.Least.{IsFurther, is_reached, lower}
use Rattle.change_check.specs.Unowned.{IsCaught, is_of_unowned, is_unowned, unowned_cell}
use Rattle.change_check.proofs.CellOrderLemmas.{first_not_behind}
use Rattle.change_check.proofs.LeastLemmas.{further_itself, further_lower, further_then, reached_lower}

-- a row of which no owners are told has none
pub none_told : (db : Db) (name : RowName) → IsOrdered db → IsOwnerSchema db.schema → (length (owners_at db name) == 0) ≡ not (has_owner db name)
none_told db name ordered owner = by (has_owner db name) refl
  where
    many : length (owners_at db name) ≡ length (owners db name)
    many = length-map (owners db name) as_subject

    by : (has : Bool) → has_owner db name ≡ has → (length (owners_at db name) == 0) ≡ not has
    by true has = false_from_ne_true _ (λ is. let none = eqb-true _ 0 is in let some = some-owners db name ordered owner has in omega (arith, many))
    by false lacks = ap (λ n. n == 0) (many ∙ no-owners db name lacks)

module _ (db : Db) where
  -- the cell of a row without an owner is one of these
  own_unowned : (name : RowName) → IfSome (unowned_cell db name) (λ cell. is_of_unowned db cell ≡ true)
  own_unowned name = by (is_unowned db name) refl
    where
      by : (b : Bool) → is_unowned db name ≡ b → IfSome (cond b (Some (cell_at name.table.0 0 name.key)) None) (λ cell. is_of_unowned db cell ≡ true)
      by true is = is
      by false is = tt

  pub further_unowned : (name : RowName) (found : Option CellName) → IsFurther (is_of_unowned db) found (lower (unowned_cell db name) found)
  further_unowned name found = further_lower (is_of_unowned db) (unowned_cell db name) found (own_unowned name)

  -- and its row is caught
  pub caught_unowned : (name : RowName) (found : Option CellName) → IsCaught db name (lower (unowned_cell db name) found)
  caught_unowned name found = λ cell same unowned.
      let own = cell_at name.table.0 0 name.key in
      let is : is_unowned db name ≡ true = subst (λ n. is_unowned db n ≡ true) same unowned in
      let some : unowned_cell db name ≡ Some own = rw is refl in
      subst (λ o. is_reached (lower o found) cell ≡ true) (sym some)
      (reached_lower own cell found (subst (λ (n : RowName). is_behind (cell_at n.table.0 0 n.key) cell ≡ false) same (first_not_behind cell)))

  -- what was found is taken further by the first of some names, whose rows are caught
  pub record IsTakenBy {X : Type 0} (named : X → RowName) (xs : List X) (count : ℕ) (found least : Option CellName) : Type 0 where
    pub further : IsFurther (is_of_unowned db) found least
    pub caught : (place : ℕ) (x : X) → place < count → slice_get xs place ≡ Some x → IsCaught db (named x) least

  module _ {X : Type 0} (named : X → RowName) (xs : List X) (found : Option CellName) where
    pub taken_none : IsTakenBy named xs 0 found found
    taken_none = record { further = further_itself (is_of_unowned db) found; caught = λ place x within is. absurd (omega arith) }

    pub taken_more : (at : ℕ) (own : X) (least next : Option CellName) → IsTakenBy named xs at found least → slice_get xs at ≡ Some own
        → IsFurther (is_of_unowned db) least next → IsCaught db (named own) next → IsTakenBy named xs (at + 1) found next
    taken_more at own least next before own_is further caught = record {
      further = further_then (is_of_unowned db) found least next before.further further;
      caught = λ place x within is cell same unowned.
          elim (cases_lt place at) [
            | inl earlier ↦ further.still cell (before.caught place x earlier is cell same unowned)
            | inr not_earlier ↦
                let here : place ≡ at = omega arith in
                let one : own ≡ x = same-place xs at own x own_is (ap (slice_get xs) (sym here) ∙ is) in
                caught cell (same ∙ sym (ap named one)) unowned
          ];
    }
