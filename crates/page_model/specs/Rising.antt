-- Items in the order of their keys.
use Rattle.std.specs.Prelude.{List, map}
use Rattle.std.specs.List.Sorted.{IsStrictlySortedBy}
use Rattle.std.specs.declared.cmp.Ordering.{Ordering}

-- each item's key is below the keys of the items after it
abbrev pub IsRising : {T K : Type 0} → (T → K) → (K → K → Ordering) → List T → Type 0
IsRising key_of cmp items = IsStrictlySortedBy cmp (map key_of items)
