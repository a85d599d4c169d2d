-- Names that are added to a list.
use Rattle.std.specs.Prelude.{List, Contains}
use Rattle.own_base.specs.declared.row_name.RowName.{RowName}

-- Each name that was there is there still, and each that is wanted is there.
pub record Adds (IsWanted : RowName → Type 0) (old new : List RowName) : Type 0 where
  pub longer : (name : RowName) → Contains old name → Contains new name
  pub has : (name : RowName) → IsWanted name → Contains new name

-- a name is wanted for one of these
abbrev pub ForSome : {X : Type 0} → (X → RowName → Type 0) → List X → RowName → Type 0
ForSome {X} IsWanted xs name = (x : X) × (Contains xs x × IsWanted x name)
