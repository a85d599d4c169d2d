-- The first fault of rows: of a UNIQUE column, else of a reference, else a row without an owner.
use Rattle.std.proofs.Common.{◌≡◌, List, [], ◌∷◌, ◌++◌, refl}
use Rattle.std.specs.Prelude.{None, Some}
use Rattle.own_model.specs.declared.refusal.Refusal.{Refusal}
use Rattle.own_model.specs.Db.{Db}
use Rattle.state_model.specs.Fault.{fault, first_of, limit_faults, owner_faults, reference_faults, unique_faults}
use Rattle.commit_check.proofs.FirstLemmas.{first-before}

-- where there is none in two lists, there is none in either
both_none : (first rest : List Refusal) → first_of (first ++ rest) ≡ None → (first_of first ≡ None) × (first_of rest ≡ None)
both_none [] rest is = (refl, is)
both_none (one ∷ more) rest is = let never : ⊥ = cc in absurd never

-- no fault of rows
pub record AreNone (db : Db) : Type 0 where
  pub unique : first_of (unique_faults db) ≡ None
  pub reference : first_of (reference_faults db) ≡ None
  pub owner : first_of (owner_faults db) ≡ None

pub rows_none : (db : Db) → first_of (unique_faults db ++ reference_faults db ++ owner_faults db) ≡ None → AreNone db
rows_none db is =
    let last = both_none (unique_faults db ++ reference_faults db) (owner_faults db) is in
    let first = both_none (unique_faults db) (reference_faults db) last.0 in
    record { unique = first.0; reference = first.1; owner = last.1 }

-- the first of rows is the first of all
pub by_row_fault : (db : Db) (first : Refusal) → first_of (unique_faults db ++ reference_faults db ++ owner_faults db) ≡ Some first → fault db ≡ Some first
unfolding fault
by_row_fault db first is = first-before (unique_faults db ++ reference_faults db ++ owner_faults db) (limit_faults db) first is
