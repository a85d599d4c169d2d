-- The node in which a bound divides the items of some nodes.
use Rattle.std.specs.Prelude.{◌≡◌, ◌<◌, ◌+◌, ℕ, List, Bool, true, false, length, drop}
use Rattle.std.specs.declared.sync.Arc.{Arc}
use Rattle.page_model.specs.Page.{IsFirst}
use Rattle.page_tree.specs.Body.{pages_of}
use Rattle.page_tree.specs.Branch.{Branch}

-- pages whose first item stands below a bound, or doesn't
pub record Starts {T : Type 0} (below : T → Bool) (stands : Bool) (pages : List (List T)) : Type 0 where
  pub first : T
  pub is : IsFirst first pages
  pub side : below first ≡ stands

-- the last node whose first item stands below the bound, else the first node
pub record IsNodeBelow {T Z : Type 0} (below : T → Bool) (nodes : List (Arc (Branch T) Z)) (number : ℕ) : Type 0 where
  pub within : number < length nodes
  pub begins : 0 < number → Starts below true (pages_of (drop number nodes))
  pub ends : number + 1 < length nodes → Starts below false (pages_of (drop (number + 1) nodes))
