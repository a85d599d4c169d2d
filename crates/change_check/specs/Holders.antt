-- The first cells of those who hold a value.
use Rattle.std.specs.Prelude.{ℕ, List, [], ◌∷◌, Option, None, Some}
use Rattle.own_base.specs.declared.value.Key.{Key}
use Rattle.change_check.specs.declared.cell_name.CellName.{CellName}
use Rattle.change_check.specs.CellOrder.{cell_at}

-- the first cell of a column, of the rows of these keys
abbrev pub first_cell : ℕ → ℕ → List Key → Option CellName
first_cell table column [] = None
first_cell table column (first ∷ more) = Some (cell_at table column first)

-- the first, where they are two or more
abbrev pub first_of_many : ℕ → ℕ → List Key → Option CellName
first_of_many table column [] = None
first_of_many table column (one ∷ []) = None
first_of_many table column (first ∷ other ∷ more) = Some (cell_at table column first)
