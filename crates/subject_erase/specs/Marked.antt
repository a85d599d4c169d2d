-- Which rows of a table edges join to an upper row that is flagged.
use Rattle.std.specs.Prelude.{◌≡◌, ℕ, ◌<◌, List, [], Bool, false, ◌==◌, ◌&&◌, ◌||◌, length, slice_index_or}
use Rattle.std.specs.List.{list_any}
use Rattle.own_model.specs.declared.schema.Edge.{Edge}
use Rattle.own_model.specs.declared.schema.Schema.{Schema}
use Rattle.own_model.specs.Db.{Row}
use Rattle.owner_sets.specs.declared.link.Link.{Link}
use Rattle.owner_sets.specs.Links.{links}
use Rattle.subject_erase.specs.declared.followed.Followed.{Followed}
use Rattle.subject_erase.specs.Flags.{Flags}
use Rattle.subject_erase.specs.Followed.{counts}

-- whether a link leads from the row at a place to a flagged one
abbrev pub over_link : List Bool → ℕ → Link → Bool
over_link upper place link = link.lower == place && slice_index_or upper link.upper false

-- whether a link of an edge does
unfoldable pub over_edge : Schema → List (List Row) → Flags → ℕ → Edge → Bool
over_edge schema rows flags place edge = list_any (over_link (slice_index_or flags edge.upper.0 []) place) (links schema rows edge)

-- whether a link of an edge does that is followed
abbrev pub over_followed : Followed → Schema → List (List Row) → Flags → ℕ → Edge → Bool
over_followed followed schema rows flags place edge = counts followed edge && over_edge schema rows flags place edge

-- over some edges
unfoldable pub is_marked : Followed → Schema → List (List Row) → Flags → List Edge → ℕ → Bool
is_marked followed schema rows flags edges place = list_any (over_followed followed schema rows flags place) edges

-- marks of as many rows, with those that a test adds
pub record HaveMore (more : ℕ → Bool) (old new : List Bool) : Type 0 where
  pub same_length : length new ≡ length old
  pub at : (place : ℕ) → place < length old → slice_index_or new place false ≡ (slice_index_or old place false || more place)
