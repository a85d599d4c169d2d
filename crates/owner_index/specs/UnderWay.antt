-- What holds while the rows in the work are gone through.
use Rattle.std.specs.Prelude.{◌≡◌, List, Contains, IsFalse}
use Rattle.own_base.specs.declared.row_name.RowName.{RowName}
use Rattle.own_model.specs.declared.schema.Edge.{Edge}
use Rattle.own_model.specs.Db.{Db, IsOrdered}
use Rattle.owner_model.specs.Joins.{Joins}
use Rattle.subject_model.specs.Paths.{is_subject_row}
use Rattle.move_model.specs.KeepsEdges.{KeepsEdges}
use Rattle.owner_index.specs.Entry.{Entry}
use Rattle.owner_index.specs.declared.which.Which.{Which}
use Rattle.owner_index.specs.Held.{StandsFor, held}

-- A row that isn't in the work has what it had at the start, and so has each upper row of it that is no subject row.
pub record IsUnderWay (db : Db) (start entries : List Entry) (work : List RowName) : Type 0 where
  pub old : (which : Which) (name : RowName) → ¬ (Contains work name) → held which entries name ≡ held which start name
  pub clean : (which : Which) (name upper : RowName) (edge : Edge) → ¬ (Contains work name) → Joins db name edge upper → IsFalse (is_subject_row db upper)
      → held which entries upper ≡ held which start upper

-- At the start it stands for a database from which this one differs, as to edges, in the work alone.
pub record ComesFrom (before after : Db) (start : List Entry) (work : List RowName) : Type 0 where
  pub ordered : IsOrdered before
  pub schema : after.schema ≡ before.schema
  pub stands : StandsFor before start
  pub untouched : (name : RowName) → ¬ (Contains work name) → KeepsEdges before after name
