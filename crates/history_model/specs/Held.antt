-- Which rows the open transactions hold, and which of them stands in a call's way.
use Rattle.std.specs.Prelude.{ℕ, List, [], ◌∷◌, Bool, true, false, not, ◌==◌, Option, None, Some, filter, filter_map, find, option_map}
use Rattle.std.specs.List.{list_any, range_with_len}
use Rattle.own_model.specs.declared.footprint.FootItem.{FootItem}
use Rattle.own_model.specs.declared.limit.TheConstants.{SESSIONS}
use Rattle.own_model.specs.declared.schema.Schema.{Schema}
use Rattle.run_model.specs.Agree.{overlaps}
use Rattle.run_model.specs.Items.{items_of_all}
use Rattle.history_model.specs.World.{SessionStanding, Outside, Open, Doomed, World, statements_of}

-- the footprints of a transaction's statements, those aside that binding refused
abbrev pub items_held : Schema → SessionStanding → List FootItem
items_held schema Outside = []
items_held schema (Open begun block) = items_of_all schema (statements_of block)
items_held schema (Doomed by) = []

-- the items that a session holds; none where no transaction of it is open
unfoldable pub held : World → ℕ → List FootItem
held world session = items_held world.flat.schema (world.standing session)

abbrev pub is_open : SessionStanding → Bool
is_open Outside = false
is_open (Open begun block) = true
is_open (Doomed by) = false

-- the sessions but one, rising
abbrev pub others : ℕ → List ℕ
others session = filter (λ other. not (other == session)) (range_with_len 1 SESSIONS)

-- a session, and the item that it stands in the way of
pub record Holding : Type 0 where
  pub session : ℕ
  pub item : FootItem

-- the first item of a footprint that overlaps one of these
abbrev pub first_overlap : List FootItem → List FootItem → Option FootItem
first_overlap items footprint = find (λ item. list_any (overlaps item) items) footprint

abbrev pub holding : World → List FootItem → ℕ → Option Holding
holding world footprint session = option_map (λ item. record { session = session; item = item }) (first_overlap (held world session) footprint)

abbrev pub first_holding : List Holding → Option Holding
first_holding [] = None
first_holding (first ∷ rest) = Some first

-- The lowest other session that holds an item which overlaps one of the footprint, with the first such item of the footprint.
unfoldable pub holder : World → ℕ → List FootItem → Option Holding
holder world session footprint = first_holding (filter_map (holding world footprint) (others session))

-- the lowest other session with an open transaction
unfoldable pub lowest_other : World → ℕ → Option ℕ
lowest_other world session = find (λ other. is_open (world.standing other)) (others session)
