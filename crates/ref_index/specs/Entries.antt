-- The entry of a row in the index of a column, and what becomes of entries.
use Rattle.std.specs.Prelude.{◌≡◌, ℕ, List, Bool, true, false, Option, None, Some, if◌then◌else◌}
use Rattle.std.specs.Option.{option_and_then}
use Rattle.std.specs.Ordering.{is_eq}
use Rattle.own_base.specs.Key.{key_cmp}
use Rattle.own_base.specs.declared.change.Change.{Change}
use Rattle.own_base.specs.declared.value.Key.{Key}
use Rattle.own_model.specs.Db.{Row}
use Rattle.query_model.specs.Footprints.{literal_key}
use Rattle.query_model.specs.Truth.{cell}
use Rattle.state_model.specs.Put.{is_of_table}
use Rattle.ordered_pairs.specs.Has.{has}
use Rattle.ordered_pairs.specs.PairOrder.{pair_cmp}
use Rattle.ref_index.specs.AfterChanges.{after_change}
use Rattle.ref_index.specs.IndexOf.{held_by, IsIndexOf}

-- the value that a row holds in a column, where it is there and its value isn't NULL
abbrev pub held_in : ℕ → Option Row → Option Key
held_in column row = option_and_then (λ there. literal_key (cell there column)) row

-- whether a value and a key are the entry of a row that holds a value, or none
abbrev pub is_entry : Option Key → Key → Key → Key → Bool
is_entry None own value key = false
is_entry (Some held) own value key = is_eq (pair_cmp key_cmp key_cmp (held, own) (value, key))

-- the entry of a row is among the pairs afterwards, or isn't, and each other is where it was before
abbrev pub SetsEntry : Option Key → Key → Bool → List (Key × Key) → List (Key × Key) → Type 0
SetsEntry held own among before after =
    (value key : Key) → has key_cmp key_cmp after value key ≡ (if is_entry held own value key then among else has key_cmp key_cmp before value key)

-- where the entry of the row before a change is there, that of the row after it stands in its place
abbrev pub Moves : ℕ → Change → List (Key × Key) → List (Key × Key) → Type 0
Moves column change before after =
    ((value : Key) → has key_cmp key_cmp before value change.name.key ≡ held_by column value change.before)
    → (value key : Key) → has key_cmp key_cmp after value key ≡ (if is_eq (key_cmp change.name.key key) then held_by column value change.after else has key_cmp key_cmp before value key)

-- an index of rows whose change this is becomes one of the rows after it
abbrev pub Follows : ℕ → ℕ → Change → List (Key × Key) → List (Key × Key) → Type 0
Follows table column change before after =
    (rows : Key → Option Row) → (is_of_table table change ≡ true → change.before ≡ rows change.name.key) → IsIndexOf column rows before
    → IsIndexOf column (after_change table change rows) after
