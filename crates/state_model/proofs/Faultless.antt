-- A database has no fault where it has none of each kind.
use Rattle.std.proofs.Common.{◌≡◌, ◌≤◌, List, [], ◌∷◌, ◌++◌, refl}
use Rattle.std.specs.Prelude.{None}
use Rattle.std.proofs.lemmas.Bool.{ltb-false}
use Rattle.own_model.specs.declared.limit.TheConstants.{STORE_ROWS}
use Rattle.own_model.specs.declared.refusal.Refusal.{Refusal}
use Rattle.own_model.specs.Db.{Db}
use Rattle.schema_model.proofs.Places.{append-none}
use Rattle.query_model.proofs.NoFaults.{none-first, none-if}
use Rattle.state_model.specs.Fault.{fault, first_of, limit_faults, owner_faults, reference_faults, unique_faults}
use Rattle.state_model.specs.Weight.{row_count}

-- no fault of any kind
pub record IsFaultless (db : Db) : Type 0 where
  pub unique : unique_faults db ≡ []
  pub reference : reference_faults db ≡ []
  pub owner : owner_faults db ≡ []
  pub limit : limit_faults db ≡ []

first-none : (faults : List Refusal) → first_of faults ≡ None → faults ≡ []
first-none [] none = refl
first-none (first ∷ faults) none = let never : ⊥ = cc in absurd never

pub faultless-from : (db : Db) → fault db ≡ None → IsFaultless db
unfolding fault
faultless-from db none =
    let unique = unique_faults db in
    let reference = reference_faults db in
    let owner = owner_faults db in
    let third = append-none (unique ++ reference ++ owner) (limit_faults db) (first-none _ none) in
    let second = append-none (unique ++ reference) owner third.0 in
    let first = append-none unique reference second.0 in
    record { unique = first.0; reference = first.1; owner = second.1; limit = third.1 }

pub from-faultless : (db : Db) → IsFaultless db → fault db ≡ None
unfolding fault
from-faultless db none = rw (none.unique, none.reference, none.owner, none.limit) refl

-- a database without a fault has no more rows than a store may have
pub few_rows : (db : Db) → fault db ≡ None → row_count db ≤ STORE_ROWS
few_rows db none =
    let limit = (faultless-from db none).limit in
    ltb-false STORE_ROWS (row_count db) (none-if _ _ (none-first _ _ limit))
