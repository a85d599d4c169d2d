-- A database that takes the place of one where nothing is wrong with it.
use Rattle.std.specs.Prelude.{◌≡◌, ◌≢◌, ℕ, Bool, true, false, List, None}
use Rattle.std.specs.List.{AllByRecursion}
use Rattle.own_base.specs.declared.change.Change.{Change}
use Rattle.own_model.specs.Db.{Db}
use Rattle.ref_index.specs.Tells.{Tell}
use Rattle.state_model.specs.Fault.{fault}
use Rattle.state_model.specs.Put.{put}
use Rattle.state_model.specs.Rows.{AreRowsOf}
use Rattle.state_model.specs.Weight.{weight}

-- changes that tell what stands, differ from it, and leave rows that may stand
pub record AreTold (db : Db) (changes : List Change) : Type 0 where
  pub tells : Tell db changes
  pub differ : AllByRecursion (λ change. change.before ≢ change.after) changes
  pub stand : AreRowsOf db.schema.tables (put db changes).rows

-- the next one with its weight, which has no fault; or it has one, and what was there stays
abbrev pub IsTaken : Db → Db → Db → ℕ → Bool → Type 0
IsTaken before next after weighs true = (after ≡ next) × (fault next ≡ None) × (weight after ≡ weighs)
IsTaken before next after weighs false = (after ≡ before) × (fault next ≢ None) × (weight after ≡ weighs)
