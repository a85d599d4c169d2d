-- What is kept for a join.
use Rattle.std.specs.Prelude.{◌≡◌, List, Bool, ◌&&◌, Option, None, Some, if◌then◌else◌}
use Rattle.std.specs.List.{list_any}
use Rattle.std.specs.Ordering.{is_eq}
use Rattle.own_base.specs.Key.{key_cmp}
use Rattle.own_base.specs.declared.number.TableNo.{TableNo}
use Rattle.own_base.specs.declared.value.Key.{Key}
use Rattle.own_model.specs.declared.bound.BoundSelect.{BoundSelect}
use Rattle.own_model.specs.declared.schema.TableDef.{TableDef}
use Rattle.own_model.specs.Db.{Db, Row}
use Rattle.own_model.specs.Stored.{row_named}
use Rattle.view_deltas.specs.Entries.{kept_at}
use Rattle.view_deltas.specs.Keys.{KeepsKeys}
use Rattle.view_deltas.specs.Place.{Place}
use Rattle.view_deltas.specs.Sides.{joined_of, place_of}
use Rattle.view_deltas.specs.TableRows.{row_at}
use Rattle.view_deltas.specs.declared.joined_side.JoinedSide.{JoinedSide}
use Rattle.view_deltas.specs.declared.side.Joins.{Joins}
use Rattle.view_deltas.specs.declared.side.Side.{Side}

-- At the place of each two keys is kept what the join shows of their rows, and at no other place is anything.
pub record KeepsPairs (own other : TableDef) (query : BoundSelect) (on : Joins) (others rows : List Row) (entries : List (Place × Row)) : Type 0 where
  pub pairs : (one two : Key) → kept_at entries (place_of on.side one two) ≡ joined_of query on (row_at own rows one) (row_at other others two)
  pub first : (side : Option Key) → kept_at entries (None, side) ≡ None
  pub second : (side : Option Key) → kept_at entries (side, None) ≡ None

-- and the keys of the own rows by what they hold
pub record KeepsSide (own other : TableDef) (query : BoundSelect) (on : Joins) (others rows : List Row) (kept : JoinedSide) : Type 0 where
  pub pairs : KeepsPairs own other query on others rows kept.entries
  pub keys : KeepsKeys own on.own_column.0 rows kept.keys

-- the row under a key of a table of a database
abbrev pub named : Db → TableNo → Key → Option Row
named db table key = row_named db.schema db.rows (record { table = table; key = key })

-- rows that a database has in a table
abbrev pub AreFoundIn : Db → TableNo → TableDef → List Row → Type 0
AreFoundIn db table definition rows = (key : Key) (row : Row) → row_at definition rows key ≡ Some row → named db table key ≡ Some row

-- whether a key is one of some
abbrev pub is_one : List Key → Key → Bool
is_one keys key = list_any (λ own. is_eq (key_cmp own key)) keys

-- At the places of a key with some others is kept what belongs there, or nothing, and at each other place what was kept there.
pub record PutsPairs (side : Side) (own : Key) (others : List Key) (item : Key → Option Row) (before after : List (Place × Row)) : Type 0 where
  pub pairs : (one two : Key) → kept_at after (place_of side one two) ≡ (if is_eq (key_cmp own one) && is_one others two then item two else kept_at before (place_of side one two))
  pub first : (place : Option Key) → kept_at after (None, place) ≡ kept_at before (None, place)
  pub second : (place : Option Key) → kept_at after (place, None) ≡ kept_at before (place, None)
