-- What is kept for a join after changes of both tables.
use Rattle.std.specs.Prelude.{◌≡◌, List}
use Rattle.own_base.specs.declared.change.Change.{Change}
use Rattle.own_model.specs.declared.bound.BoundSelect.{BoundSelect}
use Rattle.own_model.specs.declared.schema.TableDef.{TableDef}
use Rattle.own_model.specs.Db.{Db, Row}
use Rattle.view_deltas.specs.Changes.{after_changes, AllFit}
use Rattle.view_deltas.specs.Joined.{AreFoundIn}
use Rattle.view_deltas.specs.Kept.{KeepsJoin}
use Rattle.view_deltas.specs.TableRows.{AreRows}
use Rattle.view_deltas.specs.declared.joined.JoinedView.{JoinedView}
use Rattle.view_deltas.specs.declared.side.Joins.{Joins}
use Rattle.view_deltas.specs.declared.side.Side.TheVariants.{Left}

-- what is asked of the rows of the two tables: the changes fit, the right rows are found before them and the left ones after them
pub record MayFollow (one two : TableDef) (on : Joins) (before after : Db) (lefts rights : List Change) (left_rows right_rows : List Row) : Type 0 where
  pub side : on.side ≡ Left
  pub left : AreRows one left_rows
  pub right : AreRows two right_rows
  pub left_fit : AllFit on.own.0 one lefts left_rows
  pub right_fit : AllFit on.other.0 two rights right_rows
  pub right_found : AreFoundIn before on.other two right_rows
  pub left_found : AreFoundIn after on.own one (after_changes on.own.0 one lefts left_rows)

-- what is kept of two tables becomes what is kept of both after their changes
abbrev pub JoinFollows : BoundSelect → Joins → Db → Db → List Change → List Change → JoinedView → JoinedView → Type 0
JoinFollows query on before after lefts rights old new =
    (one two : TableDef) (left_rows right_rows : List Row) → MayFollow one two on before after lefts rights left_rows right_rows → KeepsJoin one two query on left_rows right_rows old
    → KeepsJoin one two query on (after_changes on.own.0 one lefts left_rows) (after_changes on.other.0 two rights right_rows) new
