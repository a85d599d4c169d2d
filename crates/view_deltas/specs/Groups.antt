-- What is kept for a grouped view.
use Rattle.std.specs.Prelude.{◌≡◌, ℕ, List, [], ◌++◌, Bool, true, false, not, ◌&&◌, ◌==◌, Option, None, Some, filter, if◌then◌else◌}
use Rattle.std.specs.Option.{option_and_then, option_map_or, option_to_list}
use Rattle.std.specs.Ordering.{is_eq}
use Rattle.own_base.specs.declared.number.ColNo.{ColNo}
use Rattle.own_base.specs.declared.value.Key.{Key}
use Rattle.own_model.specs.declared.bound.BoundItem.{BoundItem}
use Rattle.own_model.specs.declared.bound.BoundSelect.{BoundSelect}
use Rattle.own_model.specs.Db.{Row}
use Rattle.query_model.specs.Footprints.{literal_key}
use Rattle.query_model.specs.Truth.{cell, keeps}
use Rattle.view_deltas.specs.Counted.{Counted}
use Rattle.view_deltas.specs.Entries.{kept_at, PutsAt}
use Rattle.view_deltas.specs.Place.{Place, side_cmp}
use Rattle.view_deltas.specs.Tally.{shown_tally, tally}
use Rattle.view_deltas.specs.declared.grouped.GroupedView.{GroupedView}
use Rattle.view_deltas.specs.declared.way.Way.{Way}
use Rattle.view_deltas.specs.declared.way.Way.TheVariants.{In, Out}

-- the group of a row, by the value that it has in the column of GROUP BY; without that all rows are of one
abbrev pub side_of : Option ColNo → Row → Option Key
side_of group row = option_map_or (λ column. literal_key (cell row column.0)) group None

-- whether WHERE keeps a row, and it is of a group
abbrev pub in_group : BoundSelect → Option Key → Row → Bool
in_group query side row = keeps query.cond row && is_eq (side_cmp (side_of query.group row) side)

-- the rows of a group
abbrev pub group_rows : BoundSelect → Option Key → List Row → List Row
group_rows query side rows = filter (in_group query side) rows

-- Whether a group of so many rows is shown: it has some. Without GROUP BY the one group always is.
abbrev pub is_shown : Option ColNo → Option Key → ℕ → Bool
is_shown (Some column) side rows = not (rows == 0)
is_shown None None rows = true
is_shown None (Some key) rows = false

-- a tally and what is shown of it, where it is shown
abbrev pub where_shown : Option ColNo → Option Key → Counted → Option (Counted × Row)
where_shown group side counted = if is_shown group side counted.rows then Some (counted, shown_tally side counted) else None

-- what is kept at a place: the tally of the group there, and what is shown of it
unfoldable pub group_at : BoundSelect → List Row → Place → Option (Counted × Row)
group_at query rows (side, None) = where_shown query.group side (tally query.items (group_rows query side rows))
group_at query rows (side, Some other) = None

-- what is counted in what is kept of a group, where nothing is that of no rows
abbrev pub counted_in : List BoundItem → Option (Counted × Row) → Counted
counted_in items kept = option_map_or (λ one. one.0) kept (tally items [])

-- what is shown of it
abbrev pub row_in : Option (Counted × Row) → Option Row
row_in kept = option_and_then (λ one. Some one.1) kept

-- At each place the group there is kept.
pub record KeepsGroups (query : BoundSelect) (rows : List Row) (groups : GroupedView) : Type 0 where
  pub each : (place : Place) → kept_at groups.groups place ≡ group_at query rows place

-- At one place is kept a tally with what is shown of it, where it is shown; at each other place what was kept there.
abbrev pub Renews : Option ColNo → Option Key → Counted → GroupedView → GroupedView → Type 0
Renews group side counted old new = PutsAt (side, None) (where_shown group side counted) old.groups new.groups

-- What is kept becomes what is kept with a row more among the others, or without it, where there is one.
abbrev pub Counts : BoundSelect → Way → Option Row → GroupedView → GroupedView → Type 0
Counts query In row old new = (front behind : List Row) → KeepsGroups query (front ++ behind) old → KeepsGroups query (front ++ (option_to_list row ++ behind)) new
Counts query Out row old new = (front behind : List Row) → KeepsGroups query (front ++ (option_to_list row ++ behind)) old → KeepsGroups query (front ++ behind) new
