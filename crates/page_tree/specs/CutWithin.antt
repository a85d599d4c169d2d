-- Pages of which one took an item more and was cut in two.
use Rattle.std.specs.Prelude.{◌≡◌, ◌+◌, List, length, Bool, Option}
use Rattle.std.specs.declared.cmp.Ordering.{Ordering}
use Rattle.page_model.specs.Page.{joined}
use Rattle.page_tree.specs.PutWithin.{PutWithin}

-- the change was put into the page into which it falls, and there are one item and one page more
pub record CutWithin {T K C : Type 0} (key_of : T → K) (cmp : K → K → Ordering) (changed : C → K) (put : C → Option T) (old : List (List T)) (change : C) (new : List (List T)) (ends : Bool) : Type 0 where
  pub puts : PutWithin key_of cmp changed put old change new ends
  pub items : length (joined new) ≡ length (joined old) + 1
  pub pages : length new ≡ length old + 1
