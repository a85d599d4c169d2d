-- Changes that tell what a database holds, and may be put into it.
use Rattle.std.specs.Prelude.{◌≡◌, List}
use Rattle.std.specs.List.{AllByRecursion}
use Rattle.own_base.specs.declared.change.Change.{Change}
use Rattle.own_model.specs.Db.{Db}
use Rattle.owner_model.specs.Joins.{row_of}
use Rattle.state_model.specs.MayBePut.{MayBePut}

-- each has the row that stands under its name before it, and no name has two
pub record Tell (db : Db) (changes : List Change) : Type 0 where
  pub was : AllByRecursion (λ change. change.before ≡ row_of db change.name) changes
  pub may : MayBePut db.schema.tables changes
