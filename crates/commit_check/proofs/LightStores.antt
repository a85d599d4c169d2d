-- A database without a fault weighs no more than a store may.
use Rattle.std.proofs.Common.{◌≡◌, ◌≤◌, [], ◌∷◌, Bool, true, false, refl}
use Rattle.std.specs.Prelude.{None, if◌then◌else◌}
use Rattle.std.proofs.lemmas.Bool.{ltb-false}
use Rattle.own_model.specs.declared.limit.TheConstants.{STORE_WEIGHT}
use Rattle.own_model.specs.Db.{Db}
use Rattle.schema_model.proofs.Places.{append-none}
use Rattle.state_model.specs.Fault.{fault}
use Rattle.state_model.specs.Weight.{weight}
use Rattle.state_model.proofs.Faultless.{faultless-from}
use Rattle.query_model.proofs.NoFaults.{none-if}

pub weight-most : (db : Db) → fault db ≡ None → weight db ≤ STORE_WEIGHT
weight-most db none =
    let both = append-none _ _ (faultless-from db none).limit in
    ltb-false STORE_WEIGHT (weight db) (none-if _ _ both.1)
