-- The pages that stay as they are.
use Rattle.std.specs.Prelude.{◌≡◌, ◌≢◌, ℕ, List, Some, slice_get}
use Rattle.std.specs.List.{AllByRecursion, Contains}
use Rattle.std.specs.declared.cmp.Ordering.{Ordering}
use Rattle.page_model.specs.PageOf.{page_of}

-- each page into which no changed key falls is a page afterwards
abbrev pub KeepsPages : {T K C : Type 0} → (T → K) → (K → K → Ordering) → (C → K) → List (List T) → List C → List (List T) → Type 0
KeepsPages {T} key_of cmp changed before changes after =
    (number : ℕ) (page : List T) → slice_get before number ≡ Some page
    → AllByRecursion (λ change. page_of key_of cmp (changed change) before ≢ number) changes
    → Contains after page
