-- What a change tells of two databases.
use Rattle.std.specs.Prelude.{◌≡◌, ◌≢◌}
use Rattle.own_base.specs.declared.change.Change.{Change}
use Rattle.own_model.specs.Db.{Db}
use Rattle.owner_model.specs.Joins.{row_of}

-- the row of its name before and after, where there is one
pub record TellsRows (before after : Db) (change : Change) : Type 0 where
  pub was : change.before ≡ row_of before change.name
  pub is : change.after ≡ row_of after change.name

-- The two differ.
pub record IsChangeOf (before after : Db) (change : Change) : Type 0 where
  pub tells : TellsRows before after change
  pub differ : change.before ≢ change.after
