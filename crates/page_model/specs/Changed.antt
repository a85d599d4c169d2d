-- Items after changes, each of one key: an item is put there, or the key's item is taken away.
use Rattle.std.specs.Prelude.{◌≡◌, List, [], ◌∷◌, ◌++◌, Option, IfSome}
use Rattle.std.specs.List.{AllByRecursion, filter}
use Rattle.std.specs.Option.{option_to_list}
use Rattle.std.specs.Ordering.{is_gt, is_lt}
use Rattle.std.specs.declared.cmp.Ordering.{Ordering}

-- the items below a key, and those above it
abbrev pub below_key : {T K : Type 0} → (T → K) → (K → K → Ordering) → K → List T → List T
below_key key_of cmp key items = filter (λ item. is_lt (cmp (key_of item) key)) items

abbrev pub above_key : {T K : Type 0} → (T → K) → (K → K → Ordering) → K → List T → List T
above_key key_of cmp key items = filter (λ item. is_gt (cmp (key_of item) key)) items

-- the items with one change: those below the key, the item that is put, and those above the key
unfoldable pub with_change : {T K : Type 0} → (T → K) → (K → K → Ordering) → K → Option T → List T → List T
with_change key_of cmp key put items =
    below_key key_of cmp key items ++ (option_to_list put ++ above_key key_of cmp key items)

-- the items with one change after the other
unfoldable pub with_changes : {T K C : Type 0} → (T → K) → (K → K → Ordering) → (C → K) → (C → Option T) → List C → List T → List T
with_changes key_of cmp changed put [] items = items
with_changes key_of cmp changed put (change ∷ changes) items =
    with_changes key_of cmp changed put changes (with_change key_of cmp (changed change) (put change) items)

-- each item that is put has the key of its change
abbrev pub AreKeyed : {T K C : Type 0} → (T → K) → (C → K) → (C → Option T) → List C → Type 0
AreKeyed key_of changed put changes = AllByRecursion (λ change. IfSome (put change) (λ item. key_of item ≡ changed change)) changes
