-- The keys of the rows of a table, by what they hold in a column.
use Rattle.std.specs.Prelude.{◌≡◌, ℕ, List, [], Bool, false, Option, None, Some, if◌then◌else◌}
use Rattle.std.specs.Option.{option_and_then, option_map_or}
use Rattle.std.specs.Ordering.{is_eq}
use Rattle.own_base.specs.Key.{key_cmp}
use Rattle.own_base.specs.declared.value.Key.{Key}
use Rattle.own_model.specs.declared.schema.TableDef.{TableDef}
use Rattle.own_model.specs.Db.{Row}
use Rattle.link_model.specs.Holds.{holds}
use Rattle.ordered_pairs.specs.Has.{has}
use Rattle.ordered_pairs.specs.PairOrder.{pair_cmp}
use Rattle.ordered_pairs.specs.RightsOf.{rights_of}
use Rattle.query_model.specs.Footprints.{literal_key}
use Rattle.query_model.specs.Truth.{cell}
use Rattle.view_deltas.specs.TableRows.{row_at}

-- whether a row that is there or not holds a value
abbrev pub held_by : ℕ → Key → Option Row → Bool
held_by column value row = option_map_or (holds column value) row false

-- a value and a key are among the pairs exactly where the row under the key holds the value
abbrev pub KeepsKeys : TableDef → ℕ → List Row → List (Key × Key) → Type 0
KeepsKeys table column rows keys = (value key : Key) → has key_cmp key_cmp keys value key ≡ held_by column value (row_at table rows key)

-- the value that a row holds, where it is there and its value isn't NULL
abbrev pub held_in : ℕ → Option Row → Option Key
held_in column row = option_and_then (λ there. literal_key (cell there column)) row

-- the keys under what a row holds
abbrev pub keys_under : List (Key × Key) → Option Key → List Key
keys_under keys None = []
keys_under keys (Some value) = rights_of key_cmp keys value

-- whether a value and a key are those of a row that holds a value, or none
abbrev pub is_entry : Option Key → Key → Key → Key → Bool
is_entry None own value key = false
is_entry (Some held) own value key = is_eq (pair_cmp key_cmp key_cmp (held, own) (value, key))

-- the pair of a row is among the pairs afterwards, or isn't, and each other is where it was before
abbrev pub SetsKey : Option Key → Key → Bool → List (Key × Key) → List (Key × Key) → Type 0
SetsKey held own among before after = (value key : Key) → has key_cmp key_cmp after value key ≡ (if is_entry held own value key then among else has key_cmp key_cmp before value key)

-- where the pair of the row before a change is there, that of the row after it stands in its place
abbrev pub MovesKey : ℕ → Key → Option Row → Option Row → List (Key × Key) → List (Key × Key) → Type 0
MovesKey column own was is before after =
    ((value : Key) → has key_cmp key_cmp before value own ≡ held_by column value was)
    → (value key : Key) → has key_cmp key_cmp after value key ≡ (if is_eq (key_cmp own key) then held_by column value is else has key_cmp key_cmp before value key)
