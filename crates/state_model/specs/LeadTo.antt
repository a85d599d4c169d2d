-- Changes that lead from one database to another.
use Rattle.std.specs.Prelude.{◌≡◌, ℕ, List, false, filter}
use Rattle.std.specs.List.{AllByRecursion, list_any}
use Rattle.own_base.specs.declared.change.Change.{Change}
use Rattle.own_base.specs.declared.row_name.RowName.{RowName}
use Rattle.own_model.specs.Db.{Db}
use Rattle.owner_model.specs.Joins.{row_of}
use Rattle.subject_model.specs.Named.{is_name}
use Rattle.state_model.specs.ChangeOf.{TellsRows}
use Rattle.state_model.specs.MayBePut.{KeysDiffer}
use Rattle.state_model.specs.Put.{is_of_table}

-- Each tells the row of its name before and after, also where it is the same; no name has two; and the row of a name that none
-- of them has is the same in both.
pub record LeadTo (before after : Db) (changes : List Change) : Type 0 where
  pub each : AllByRecursion (TellsRows before after) changes
  pub once : (number : ℕ) → KeysDiffer (filter (is_of_table number) changes)
  pub others : (name : RowName) → list_any (λ change. is_name change.name name) changes ≡ false → row_of before name ≡ row_of after name
