use Rattle.std.proofs.Common.{◌≡◌, ◌++◌, ◌∷◌, take}
use Rattle.std.specs.List.{flat_map}
use Rattle.text_model.specs.Shown.{shown_cell}
use Rattle.sql_print.proofs.reply.push_more_cells.Given as goal

-- the values so far are written
abbrev pub invariant-loop-cell : goal.invariant-loop-cell
invariant-loop-cell l = l.buffer ≡ l.initial.buffer ++ flat_map (λ cell. 124 ∷ shown_cell cell) (take l.cell-index l.cells)
