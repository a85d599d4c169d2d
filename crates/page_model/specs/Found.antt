-- Looking an item up by its key.
use Rattle.std.specs.Prelude.{List, Option, find}
use Rattle.std.specs.Ordering.{is_eq}
use Rattle.std.specs.declared.cmp.Ordering.{Ordering}

-- the item of this key, where there is one
unfoldable pub found : {T K : Type 0} → (T → K) → (K → K → Ordering) → K → List T → Option T
found key_of cmp key items = find (λ item. is_eq (cmp (key_of item) key)) items
