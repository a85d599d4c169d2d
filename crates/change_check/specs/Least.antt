-- The least of cells.
use Rattle.std.specs.Prelude.{◌≡◌, Bool, true, false, not, Option, None, Some, IfSome, if◌then◌else◌}
use Rattle.change_check.specs.declared.cell_name.CellName.{CellName}
use Rattle.change_check.specs.CellOrder.{is_behind}

-- the lower of two, where there are any
abbrev pub lower : Option CellName → Option CellName → Option CellName
lower None found = found
lower (Some cell) None = Some cell
lower (Some cell) (Some least) = if is_behind least cell then Some cell else Some least

-- whether there is one that isn't behind a cell
abbrev pub is_reached : Option CellName → CellName → Bool
is_reached None cell = false
is_reached (Some least) cell = not (is_behind least cell)

-- the first cell that passes a test; none where none does
pub record IsLeast (test : CellName → Bool) (least : Option CellName) : Type 0 where
  pub own : IfSome least (λ cell. test cell ≡ true)
  pub reached : (cell : CellName) → test cell ≡ true → is_reached least cell ≡ true

-- From what was found to what is found after: this passes too, and reaches all that the other did.
pub record IsFurther (test : CellName → Bool) (before after : Option CellName) : Type 0 where
  pub own : IfSome before (λ cell. test cell ≡ true) → IfSome after (λ cell. test cell ≡ true)
  pub still : (cell : CellName) → is_reached before cell ≡ true → is_reached after cell ≡ true
