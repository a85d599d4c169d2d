-- Items that stand side by side among others.
use Rattle.std.specs.Prelude.{◌≡◌, ◌++◌, List, [], Bool, true}

-- the items have these among them, one behind the other as here, and no others behind these where they are the last
pub record HoldsRun {T : Type 0} (items run : List T) (last : Bool) : Type 0 where
  pub front : List T
  pub behind : List T
  pub is : items ≡ front ++ (run ++ behind)
  pub ends : last ≡ true → behind ≡ []
