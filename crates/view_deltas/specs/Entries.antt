-- What is kept at places.
use Rattle.std.specs.Prelude.{◌≡◌, List, Option, Some, if◌then◌else◌}
use Rattle.std.specs.Option.{option_and_then}
use Rattle.std.specs.Ordering.{is_eq}
use Rattle.page_model.specs.Found.{found}
use Rattle.view_deltas.specs.Place.{Place, place_cmp}

-- what is kept, of an entry
abbrev pub item_of : {T : Type 0} → Option (Place × T) → Option T
item_of entry = option_and_then (λ it. Some it.1) entry

-- what is kept at a place, where something is
unfoldable pub kept_at : {T : Type 0} → List (Place × T) → Place → Option T
kept_at entries place = item_of (found (λ entry. entry.0) place_cmp place entries)

-- something is kept at one place, or nothing is any more, and at each other place what was kept there
abbrev pub PutsAt : {T : Type 0} → Place → Option T → List (Place × T) → List (Place × T) → Type 0
PutsAt place item before after = (other : Place) → kept_at after other ≡ (if is_eq (place_cmp place other) then item else kept_at before other)
