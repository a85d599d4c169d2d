-- Transactions may stand on a sound database.
use Rattle.std.proofs.Common.{◌≤◌, ℕ, zero, suc, List, [], ◌∷◌, length, arith}
use Rattle.std.specs.Prelude.{sum_by}
use Rattle.std.proofs.lemmas.List.Sums.{sum_by-cons}
use Rattle.own_model.specs.Db.{Db, Row}
use Rattle.own_model.specs.Stored.{rows_at}
use Rattle.state_model.specs.Sound.{Sound}
use Rattle.state_model.proofs.Faultless.{few_rows}
use Rattle.txn_space.specs.Sound.{IsBase}
use Rattle.txn_core.specs.Runs.{IsStore}
use Rattle.query_eval.specs.Views.{AreViewsThere}

-- a table has no more rows than all of them
few-at : (rows : List (List Row)) (number : ℕ) → length (rows_at rows number) ≤ sum_by length rows
few-at [] zero = omega arith
few-at [] (suc number) = omega arith
few-at (first ∷ rest) zero = let sum = sum_by-cons (length {A = Row}) first rest in omega arith
few-at (first ∷ rest) (suc number) = let sum = sum_by-cons (length {A = Row}) first rest in let later = few-at rest number in omega arith

-- so it has few rows in each table
pub base-sound : (db : Db) → Sound db → IsBase db.schema.tables db.rows
base-sound db sound = record {
  rising = sound.well_formed.ordered.rising;
  few = λ number. let all = few_rows db sound.faultless in let one = few-at db.rows number in omega arith;
}

-- and with views of tables that are there it is a store
pub store-sound : (db : Db) → Sound db → AreViewsThere db.schema → IsStore db
store-sound db sound views = record {
  rising = sound.well_formed.ordered.rising;
  few = λ number. let all = few_rows db sound.faultless in let one = few-at db.rows number in omega arith;
  views = views;
}
