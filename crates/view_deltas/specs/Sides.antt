-- The pairs of a join, as one of its sides sees them.
use Rattle.std.specs.Prelude.{◌++◌, Bool, Option, None, Some, if◌then◌else◌}
use Rattle.std.specs.Option.{option_and_then}
use Rattle.own_base.specs.declared.value.Key.{Key}
use Rattle.own_model.specs.declared.bound.BoundSelect.{BoundSelect}
use Rattle.own_model.specs.Db.{Row}
use Rattle.query_model.specs.Query.{meet}
use Rattle.view_deltas.specs.Place.{Place}
use Rattle.view_deltas.specs.Shown.{shown_of}
use Rattle.view_deltas.specs.declared.side.Joins.{Joins}
use Rattle.view_deltas.specs.declared.side.Side.{Side}
use Rattle.view_deltas.specs.declared.side.Side.TheVariants.{Left, Right}

-- the other side
abbrev pub opposite : Side → Side
opposite Left = Right
opposite Right = Left

-- a join as its other table sees it
abbrev pub turned : Joins → Joins
turned on = record { side = opposite on.side; own = on.other; own_column = on.other_column; other = on.own; other_column = on.own_column }

-- the place of a pair, by the own key and the other
abbrev pub place_of : Side → Key → Key → Place
place_of Left own other = (Some own, Some other)
place_of Right own other = (Some other, Some own)

-- what is shown of a pair
abbrev pub shown_pair : BoundSelect → Side → Row → Row → Option Row
shown_pair query Left own other = shown_of query (own ++ other)
shown_pair query Right own other = shown_of query (other ++ own)

-- whether the two rows meet
abbrev pub they_meet : Joins → Row → Row → Bool
they_meet on own other = by on.side
  where
    by : Side → Bool
    by Left = meet on.own_column.0 on.other_column.0 own other
    by Right = meet on.other_column.0 on.own_column.0 other own

-- what is shown of two rows that are there or not, whether they meet or not
abbrev pub shown_both : BoundSelect → Side → Option Row → Option Row → Option Row
shown_both query side own other = option_and_then (λ one. option_and_then (shown_pair query side one) other) own

-- what the join shows of them
abbrev pub shown_if_met : BoundSelect → Joins → Row → Row → Option Row
shown_if_met query on own other = if they_meet on own other then shown_pair query on.side own other else None

abbrev pub joined_of : BoundSelect → Joins → Option Row → Option Row → Option Row
joined_of query on own other = option_and_then (λ one. option_and_then (shown_if_met query on one) other) own
