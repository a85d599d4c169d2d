-- Puts as changes that tell what stands.
use Rattle.std.specs.Prelude.{◌≡◌, List, Option, None, Some}
use Rattle.std.specs.List.{AllByRecursion}
use Rattle.own_base.specs.declared.change.Change.{Change}
use Rattle.own_model.specs.Db.{Db}
use Rattle.owner_model.specs.Joins.{row_of}
use Rattle.disk_model.specs.declared.commit.Put.{Put}
use Rattle.disk_model.specs.Lawful.{IsLawfulPut}
use Rattle.disk_model.specs.PutOf.{put_of, puts_of}

-- the change that a lawful put makes, with the row that stands under its name; or it isn't lawful
abbrev pub IsMadeBy : Db → Put → Option Change → Type 0
IsMadeBy db put (Some change) = (put_of change ≡ put) × (change.before ≡ row_of db change.name) × IsLawfulPut db put
IsMadeBy db put None = ¬ IsLawfulPut db put

-- those of puts of which each is lawful; or one isn't
abbrev pub AreMadeBy : Db → List Put → Option (List Change) → Type 0
AreMadeBy db puts (Some changes) = (puts_of changes ≡ puts) × AllByRecursion (λ change. change.before ≡ row_of db change.name) changes × AllByRecursion (IsLawfulPut db) puts
AreMadeBy db puts None = ¬ AllByRecursion (IsLawfulPut db) puts
