-- What is sought above a row.
use Rattle.std.specs.Prelude.{◌≡◌, List, Bool, true, not, ◌==◌, ◌&&◌, is_some, length, if◌then◌else◌}
use Rattle.own_base.specs.declared.change.Change.{Change}
use Rattle.own_base.specs.declared.row_name.RowName.{RowName}
use Rattle.own_model.specs.declared.schema.Edge.{Edge}
use Rattle.own_model.specs.Db.{Db}
use Rattle.link_model.specs.Whose.{owners_at}
use Rattle.schema_model.specs.Tables.{is_subject}
use Rattle.subject_model.specs.Named.{is_name}
use Rattle.subject_model.specs.Owners.{owns, reaches}
use Rattle.shelf_erase.specs.declared.sought.Sought.{Sought}
use Rattle.shelf_erase.specs.declared.sought.Sought.TheVariants.{Owned, Kept, Reached}
use Rattle.shelf_erase.specs.Told.{told}
use Rattle.shelf_erase.specs.Upper.{LeadsTo}

-- over which edges
abbrev pub counts : Sought → Edge → Bool
counts Owned edge = edge.strike
counts Kept edge = edge.owner
counts Reached edge = true

-- whether a subject reaches a row over an upper row: the subject itself, or one that is no data subject and that it reaches
abbrev pub is_over : Db → RowName → RowName → Bool
is_over db subject upper = if is_subject db.schema upper.table.0 then is_name upper subject else reaches db subject upper

-- a row that the subject owns, or that has an owner and doesn't go, or over which the subject reaches
abbrev pub passes : Sought → Db → RowName → List Change → RowName → Bool
passes Owned db subject removals upper = owns db subject upper
passes Kept db subject removals upper = not (is_some (told removals upper)) && not (length (owners_at db upper) == 0)
passes Reached db subject removals upper = is_over db subject upper

-- an edge that counts leads to one
pub record LeadsBy (db : Db) (sought : Sought) (subject : RowName) (removals : List Change) (name : RowName) (edge : Edge) : Type 0 where
  pub counted : counts sought edge ≡ true
  pub leads : LeadsTo db (passes sought db subject removals) name edge

-- some edge does
pub record LeadsUp (db : Db) (sought : Sought) (subject : RowName) (removals : List Change) (name : RowName) : Type 0 where
  pub edge : Edge
  pub by : LeadsBy db sought subject removals name edge
