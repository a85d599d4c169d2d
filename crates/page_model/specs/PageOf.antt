-- The page into which a key falls.
use Rattle.std.specs.Prelude.{ℕ, suc, List, [], ◌∷◌, Bool, false, not, if◌then◌else◌}
use Rattle.std.specs.List.{list_any}
use Rattle.std.specs.Ordering.{is_gt}
use Rattle.std.specs.declared.cmp.Ordering.{Ordering}

-- whether the first key of a page isn't above a key
abbrev pub starts_by : {T K : Type 0} → (T → K) → (K → K → Ordering) → K → List T → Bool
starts_by key_of cmp key [] = false
starts_by key_of cmp key (first ∷ others) = not (is_gt (cmp (key_of first) key))

-- The number of the last page whose first key isn't above the key, else that of the first page: a page has the key
-- unless one behind it starts by it.
unfoldable pub page_of : {T K : Type 0} → (T → K) → (K → K → Ordering) → K → List (List T) → ℕ
page_of key_of cmp key [] = 0
page_of key_of cmp key (page ∷ behind) = if list_any (starts_by key_of cmp key) behind then suc (page_of key_of cmp key behind) else 0
