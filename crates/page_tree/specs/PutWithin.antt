-- Pages of which one was changed in place, and why that was the page into which the change falls.
use Rattle.std.specs.Prelude.{◌≡◌, ◌≤◌, ◌+◌, ◌⊎◌, List, [], ◌∷◌, ◌++◌, length, Bool, true, false, Option}
use Rattle.std.specs.Ordering.{is_lt}
use Rattle.std.specs.declared.cmp.Ordering.{Ordering}
use Rattle.page_model.specs.Page.{IsFirst}
use Rattle.page_tree.specs.InPlace.{InPlace}
use Rattle.page_tree.specs.NodeOf.{Begin}

-- items that come as far as a key: one of them isn't below it
pub record Reaches {T K : Type 0} (key_of : T → K) (cmp : K → K → Ordering) (key : K) (items : List T) : Type 0 where
  pub before : List T
  pub item : T
  pub others : List T
  pub is : items ≡ before ++ item ∷ others
  pub upto : is_lt (cmp (key_of item) key) ≡ false

-- no page behind this one holds the key, or anything below it: the page itself comes as far, or those behind begin above it, or
-- there are none behind and whatever comes after these pages is known to be above it
abbrev pub Ends : {T K : Type 0} → (T → K) → (K → K → Ordering) → K → List T → List (List T) → Bool → Type 0
Ends key_of cmp key page behind ends = Reaches key_of cmp key page ⊎ (Begin key_of cmp key true behind ⊎ ((behind ≡ []) × (ends ≡ true)))

-- one page that begins at or below the key, and behind which it doesn't fall, is as a change in place makes it, and all others are as they were;
-- so they have the same first item, and there is at most one more, where the page was cut
pub record PutWithin {T K C : Type 0} (key_of : T → K) (cmp : K → K → Ordering) (changed : C → K) (put : C → Option T) (old : List (List T)) (change : C) (new : List (List T)) (ends : Bool) : Type 0 where
  pub front : List (List T)
  pub page : List T
  pub made : List (List T)
  pub behind : List (List T)
  pub was : old ≡ front ++ page ∷ behind
  pub is : new ≡ front ++ (made ++ behind)
  pub here : InPlace key_of cmp changed put (page ∷ []) change made
  pub begins : Begin key_of cmp (changed change) false (page ∷ [])
  pub falls : Ends key_of cmp (changed change) page behind ends
  pub count : length new ≤ length old + 1
  pub starts : (first : T) → IsFirst first old → IsFirst first new
