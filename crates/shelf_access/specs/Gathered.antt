-- Copies that are gathered, each found by the name of its row.
use Rattle.std.specs.Prelude.{◌≡◌, ◌⊎◌, List, Contains, Option, Some}
use Rattle.own_base.specs.declared.row_name.RowName.{RowName}
use Rattle.page_model.specs.Found.{found}
use Rattle.subject_model.specs.NameOrder.{name_cmp}
use Rattle.shelf_model.specs.declared.shelved.Shelved.{Shelved}

abbrev pub name_of_copy : Shelved → RowName
name_of_copy copy = copy.name

-- the copy of a name
abbrev pub copy_in : List Shelved → RowName → Option Shelved
copy_in copies name = found name_of_copy name_cmp name copies

-- Each of these is the one that is wanted for its name.
abbrev pub AreWanted : (RowName → Option Shelved) → List Shelved → Type 0
AreWanted wanted copies = (copy : Shelved) → Contains copies copy → wanted copy.name ≡ Some copy

-- Those that are given are there, and for each name stands the one that is wanted, or what stood there.
pub record GathersWanted (wanted : RowName → Option Shelved) (given old new : List Shelved) : Type 0 where
  pub has : (copy : Shelved) → Contains given copy → copy_in new copy.name ≡ wanted copy.name
  pub rest : (name : RowName) → (copy_in new name ≡ wanted name) ⊎ (copy_in new name ≡ copy_in old name)

-- whatever is wanted, as long as what is given is
abbrev pub Gathers : List Shelved → List Shelved → List Shelved → Type 0
Gathers given old new = (wanted : RowName → Option Shelved) → AreWanted wanted given → GathersWanted wanted given old new
