-- What is asked of the state before changes.
use Rattle.std.specs.Prelude.{◌≡◌, List}
use Rattle.own_base.specs.declared.change.Change.{Change}
use Rattle.own_model.specs.Db.{Db, IsOrdered}
use Rattle.state_model.specs.LeadTo.{LeadTo}
use Rattle.owner_index.specs.Entry.{Entry}
use Rattle.owner_index.specs.Held.{StandsFor}

-- It is a database of the same schema from which the changes lead to the one after them, and what is held stands for it.
pub record IsBefore (before after : Db) (changes : List Change) (entries : List Entry) : Type 0 where
  pub ordered : IsOrdered before
  pub schema : after.schema ≡ before.schema
  pub leads : LeadTo before after changes
  pub stands : StandsFor before entries
