-- The cells of a row, by the columns that are hidden.
use Rattle.std.proofs.Common.{◌≡◌, ℕ, ◌+◌, ◌≤◌, List, [], ◌∷◌, Bool, length, map, refl, arith}
use Rattle.std.specs.Prelude.{if◌then◌else◌}
use Rattle.std.specs.List.{enumerate_from}
use Rattle.own_base.specs.declared.value.Value.{Value}
use Rattle.own_model.specs.declared.limit.TheConstants.{TABLE_COLUMNS}
use Rattle.own_model.specs.declared.reply.Cell.TheVariants.{Shown, Hidden}
use Rattle.owner_model.specs.ColumnSets.{set_of}
use Rattle.owner_model.proofs.ColumnSetLemmas.{has_column-set_of}
use Rattle.subject_access.specs.Cells.{cell_in}

-- In a row of no more columns than a table may have, the set of the columns that pass a test hides the values at which the test
-- is true.
cells-of_set : (passes : ℕ → Bool) (from : ℕ) (row : List Value) → from + length row ≤ 32
    → map (cell_in (set_of passes)) (enumerate_from from row) ≡ map (λ (numbered : ℕ × Value). if passes numbered.0 then Hidden else Shown numbered.1) (enumerate_from from row)
cells-of_set passes from [] within = refl
cells-of_set passes from (value ∷ row) within = rw (has_column-set_of passes from (omega arith), cells-of_set passes (from + 1) row (omega arith)) refl

-- the cells of a whole row, the first of which is that of column 0
pub cells-of_row : (passes : ℕ → Bool) (row : List Value) → length row ≤ TABLE_COLUMNS
    → map (cell_in (set_of passes)) (enumerate_from 0 row) ≡ map (λ (numbered : ℕ × Value). if passes numbered.0 then Hidden else Shown numbered.1) (enumerate_from 0 row)
cells-of_row passes row within = cells-of_set passes 0 row (omega arith)
