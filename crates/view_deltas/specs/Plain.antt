-- What is kept for a view of one table that isn't grouped.
use Rattle.std.specs.Prelude.{◌≡◌, List, Option, None, Some}
use Rattle.std.specs.Option.{option_and_then}
use Rattle.own_model.specs.declared.bound.BoundSelect.{BoundSelect}
use Rattle.own_model.specs.declared.schema.TableDef.{TableDef}
use Rattle.own_model.specs.Db.{Row}
use Rattle.view_deltas.specs.Entries.{kept_at}
use Rattle.view_deltas.specs.Place.{Place}
use Rattle.view_deltas.specs.Shown.{shown_of}
use Rattle.view_deltas.specs.TableRows.{row_at}

-- what stands at a place: under a key what is shown of its row
unfoldable pub plain_at : TableDef → BoundSelect → List Row → Place → Option Row
plain_at table query rows (Some key, None) = option_and_then (shown_of query) (row_at table rows key)
plain_at table query rows _ = None

-- at each place is kept what stands there
abbrev pub KeepsPlain : TableDef → BoundSelect → List Row → List (Place × Row) → Type 0
KeepsPlain table query rows entries = (place : Place) → kept_at entries place ≡ plain_at table query rows place
