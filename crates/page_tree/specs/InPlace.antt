-- Pages in which one change was put in place.
use Rattle.std.specs.Prelude.{◌≤◌, ◌+◌, List, [], ◌∷◌, length, Option}
use Rattle.std.specs.declared.cmp.Ordering.{Ordering}
use Rattle.page_model.specs.ChangedPages.{AddsChanged}
use Rattle.page_model.specs.Page.{IsFirst}

-- pages with the same first item, of which at most one is cut in two, and otherwise as a change makes them
pub record InPlace {T K C : Type 0} (key_of : T → K) (cmp : K → K → Ordering) (changed : C → K) (put : C → Option T) (old : List (List T)) (change : C) (new : List (List T)) : Type 0 where
  pub adds : AddsChanged key_of cmp changed put old (change ∷ []) [] new
  pub count : length new ≤ length old + 1
  pub begins : (first : T) → IsFirst first old → IsFirst first new
