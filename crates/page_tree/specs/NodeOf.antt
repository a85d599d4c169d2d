-- The node into which a key falls.
use Rattle.std.specs.Prelude.{◌≡◌, ◌<◌, ◌+◌, ℕ, List, Bool, true, false, length, drop}
use Rattle.std.specs.Ordering.{is_gt}
use Rattle.std.specs.declared.cmp.Ordering.{Ordering}
use Rattle.std.specs.declared.sync.Arc.{Arc}
use Rattle.page_model.specs.Page.{IsFirst}
use Rattle.page_tree.specs.Body.{pages_of}
use Rattle.page_tree.specs.Branch.{Branch}

-- pages whose first item is above a key, or isn't
pub record Begin {T K : Type 0} (key_of : T → K) (cmp : K → K → Ordering) (key : K) (above : Bool) (pages : List (List T)) : Type 0 where
  pub first : T
  pub is : IsFirst first pages
  pub stands : is_gt (cmp (key_of first) key) ≡ above

-- the last node whose first item isn't above the key, else the first node
pub record IsNodeOf {T K Z : Type 0} (key_of : T → K) (cmp : K → K → Ordering) (key : K) (nodes : List (Arc (Branch T) Z)) (number : ℕ) : Type 0 where
  pub within : number < length nodes
  pub begins : 0 < number → Begin key_of cmp key false (pages_of (drop number nodes))
  pub ends : number + 1 < length nodes → Begin key_of cmp key true (pages_of (drop (number + 1) nodes))
