-- Databases with rows where there were none.
use Rattle.std.specs.Prelude.{◌≡◌, ℕ, Bool, true, false, List, Option, None, Some}
use Rattle.own_model.specs.Db.{Db, Row}
use Rattle.state_model.specs.Sound.{Sound}
use Rattle.state_model.specs.Weight.{weight}
use Rattle.disk_model.specs.Lawful.{AreKeyedRows}

-- one of the same creates with these rows, which may stand in their tables under keys
pub record HasRows (before : Db) (rows : List (List Row)) (after : Db) : Type 0 where
  pub schema : after.schema ≡ before.schema
  pub creates : after.creates ≡ before.creates
  pub rows_are : after.rows ≡ rows
  pub keyed : AreKeyedRows after.schema.tables after.rows

-- that, and it is sound; or none is
abbrev pub IsWithRows : Db → List (List Row) → Option Db → Type 0
IsWithRows before rows (Some after) = HasRows before rows after
IsWithRows before rows None = (db : Db) → Sound db → ¬ HasRows before rows db

-- it takes the place of the one without them, with its weight; or none is sound
abbrev pub AreRowsPut : Db → List (List Row) → Db → ℕ → Bool → Type 0
AreRowsPut before rows after weighs true = HasRows before rows after × Sound after × (weight after ≡ weighs)
AreRowsPut before rows after weighs false = (db : Db) → Sound db → ¬ HasRows before rows db
