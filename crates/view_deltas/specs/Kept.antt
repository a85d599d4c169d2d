-- What is kept for the views of a store.
use Rattle.std.specs.Prelude.{◌≡◌, ℕ, List, [], ◌∷◌, ◌++◌, true, false, Some, length, map, slice_get}
use Rattle.own_base.specs.declared.number.ColNo.{ColNo}
use Rattle.own_base.specs.declared.number.TableNo.{TableNo}
use Rattle.own_model.specs.declared.bound.BoundSelect.{BoundSelect}
use Rattle.own_model.specs.declared.bound.Source1.{Source1}
use Rattle.own_model.specs.declared.bound.Source1.TheVariants.{Pair, Table}
use Rattle.own_model.specs.declared.schema.TableDef.{TableDef}
use Rattle.own_model.specs.declared.schema.ViewDef.{ViewDef}
use Rattle.own_model.specs.Db.{Db, Row}
use Rattle.own_model.specs.Stored.{rows_at}
use Rattle.own_base.specs.declared.change.Change.{Change}
use Rattle.state_model.specs.LeadTo.{LeadTo}
use Rattle.view_deltas.specs.Groups.{KeepsGroups}
use Rattle.view_deltas.specs.Joined.{KeepsPairs}
use Rattle.view_deltas.specs.Keys.{KeepsKeys}
use Rattle.view_deltas.specs.Place.{Place}
use Rattle.view_deltas.specs.Plain.{KeepsPlain}
use Rattle.view_deltas.specs.ViewOf.{HoldNoSums}
use Rattle.view_deltas.specs.declared.joined.JoinedView.{JoinedView}
use Rattle.view_deltas.specs.declared.kept_view.KeptView.{KeptView}
use Rattle.view_deltas.specs.declared.kept_view.KeptView.TheVariants.{Grouped, Joined, Plain}
use Rattle.view_deltas.specs.declared.side.Joins.{Joins}
use Rattle.view_deltas.specs.declared.side.Side.TheVariants.{Left}

-- a join as its left table sees it
abbrev pub from_left : TableNo → TableNo → ColNo → ColNo → Joins
from_left left right left_column right_column = record { side = Left; own = left; own_column = left_column; other = right; other_column = right_column }

-- for a join: the pairs, and of both tables the keys by what their rows hold
pub record KeepsJoin (left right : TableDef) (query : BoundSelect) (on : Joins) (lefts rights : List Row) (joined : JoinedView) : Type 0 where
  pub pairs : KeepsPairs left right query on rights lefts joined.entries
  pub left_keys : KeepsKeys left on.own_column.0 lefts joined.lefts
  pub right_keys : KeepsKeys right on.other_column.0 rights joined.rights

-- for a view, by its source and whether it is grouped
abbrev pub IsKept : Db → BoundSelect → Source1 → KeptView → Type 0
IsKept db query (Table number) (Plain entries) = (query.grouped ≡ false) × ((table : TableDef) → slice_get db.schema.tables number.0 ≡ Some table → KeepsPlain table query (rows_at db.rows number.0) entries)
IsKept db query (Table number) (Grouped groups) = (query.grouped ≡ true) × KeepsGroups query (rows_at db.rows number.0) groups
IsKept db query (Pair left right left_column right_column) (Joined joined) =
    (one two : TableDef) → slice_get db.schema.tables left.0 ≡ Some one → slice_get db.schema.tables right.0 ≡ Some two
    → KeepsJoin one two query (from_left left right left_column right_column) (rows_at db.rows left.0) (rows_at db.rows right.0) joined
IsKept db query _ _ = ⊥

abbrev pub IsKeptFor : Db → ViewDef → KeptView → Type 0
IsKeptFor db view kept = IsKept db view.query view.query.source kept

-- What is kept for a view becomes what is kept for it after changes.
abbrev pub IsKeptAfter : Db → Db → List Change → BoundSelect → KeptView → KeptView → Type 0
IsKeptAfter before after changes query old new =
    HoldNoSums before.rows → HoldNoSums after.rows → LeadTo before after changes → IsKept before query query.source old → IsKept after query query.source new

-- for each of some views
pub record AreKept (db : Db) (views : List ViewDef) (kept : List KeptView) : Type 0 where
  pub count : length kept ≡ length views
  pub each : (number : ℕ) (view : ViewDef) (one : KeptView) → slice_get views number ≡ Some view → slice_get kept number ≡ Some one → IsKeptFor db view one

-- for all views of a database, as its rows are
abbrev pub StandsFor : Db → List KeptView → Type 0
StandsFor db kept = AreKept db db.schema.views kept

-- the rows that are shown, each at its place
abbrev pub entries_of : KeptView → List (Place × Row)
entries_of (Plain entries) = entries
entries_of (Grouped groups) = map (λ group. (group.0, group.1.1)) groups.groups
entries_of (Joined joined) = joined.entries

-- a database with a view more
pub record AddsView (before : Db) (view : ViewDef) (after : Db) : Type 0 where
  pub tables : after.schema.tables ≡ before.schema.tables
  pub views : after.schema.views ≡ before.schema.views ++ view ∷ []
  pub rows : after.rows ≡ before.rows
