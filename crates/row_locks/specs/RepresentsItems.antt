-- What a session's items are good for: items represent others where the same footprints meet them, and the same rows lie on them.
use Rattle.std.specs.Prelude.{◌≡◌, ℕ, List, ◌==◌, Option, None, filter_map, option_map, if◌then◌else◌}
use Rattle.std.specs.List.{list_any}
use Rattle.own_base.specs.declared.row_name.RowName.{RowName}
use Rattle.own_model.specs.declared.footprint.FootItem.{FootItem}
use Rattle.run_model.specs.Agree.{lies_on, overlaps}
use Rattle.history_model.specs.Held.{Holding, first_holding, first_overlap, others}
use Rattle.row_locks.specs.declared.held_item.HeldItem.{HeldItem}
use Rattle.row_locks.specs.SessionItems.{items_by}

-- Whether items represent others: each item overlaps one of these where it overlaps one of those, and likewise each row lies on one.
pub record RepresentsItems (kept items : List FootItem) : Type 0 where
  pub overlap : (item : FootItem) → list_any (overlaps item) kept ≡ list_any (overlaps item) items
  pub lie : (name : RowName) → list_any (lies_on name) kept ≡ list_any (lies_on name) items

-- for each session what is kept represents the items that it holds
abbrev pub AreHeld : List (List FootItem) → (ℕ → List FootItem) → Type 0
AreHeld kept held = (session : ℕ) → RepresentsItems (items_by kept session) (held session)

-- a session that holds an item which overlaps one of the footprint, with the first such item of the footprint
abbrev pub holding_among : (ℕ → List FootItem) → List FootItem → ℕ → Option Holding
holding_among held footprint session = option_map (λ item. record { session = session; item = item }) (first_overlap (held session) footprint)

-- the same of another session
abbrev pub holding_of_other : (ℕ → List FootItem) → ℕ → List FootItem → ℕ → Option Holding
holding_of_other held session footprint other = if other == session then None else holding_among held footprint other

-- The lowest other session that holds such an item.
unfoldable pub holder_among : (ℕ → List FootItem) → ℕ → List FootItem → Option Holding
holder_among held session footprint = first_holding (filter_map (holding_among held footprint) (others session))

-- a holder, with what it lends
abbrev pub told : HeldItem → Holding
told found = record { session = found.session.0; item = found.item.now }
