-- An index on its way through changes.
use Rattle.std.specs.Prelude.{◌≡◌, ℕ, List, Option}
use Rattle.own_base.specs.declared.change.Change.{Change}
use Rattle.own_base.specs.declared.value.Key.{Key}
use Rattle.own_model.specs.Db.{Row}
use Rattle.ref_index.specs.AfterChanges.{after_changes, Fit}
use Rattle.ref_index.specs.IndexOf.{IsIndexOf}

-- the pairs index rows which the changes that are left make the rows wanted
pub record Halfway (table column : ℕ) (left : List Change) (pairs : List (Key × Key)) (wanted : Key → Option Row) : Type 0 where
  pub rows : Key → Option Row
  pub index : IsIndexOf column rows pairs
  pub fit : Fit table left rows
  pub same : after_changes table left rows ≡ wanted
