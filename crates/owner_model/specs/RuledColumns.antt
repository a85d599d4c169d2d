-- Which columns of a row the edges rule by which a subject reaches it.
use Rattle.std.specs.Prelude.{ℕ, List, length, Bool, not, ◌==◌, ◌&&◌}
use Rattle.std.specs.List.{list_all, list_any}
use Rattle.own_base.specs.declared.number.EdgeNo.{EdgeNo}
use Rattle.own_model.specs.declared.schema.Edge.{Edge}
use Rattle.owner_model.specs.ColumnSets.{has_column}

-- whether the edge of this number hides a column ON GET
abbrev pub hides : List Edge → ℕ → EdgeNo → Bool
hides edges column number = list_any (λ edge. edge.number.0 == number.0 && has_column edge.get column) edges

-- whether it makes a column NULL ON DEL
abbrev pub blanks : List Edge → ℕ → EdgeNo → Bool
blanks edges column number = list_any (λ edge. edge.number.0 == number.0 && has_column edge.del column) edges

-- A column is hidden from a subject where every edge by which it reaches the row hides it, and there is one.
abbrev pub is_hidden : List Edge → List EdgeNo → ℕ → Bool
is_hidden edges by column = not (length by == 0) && list_all (hides edges column) by

-- A column is made NULL where one of these edges rules it.
abbrev pub is_blanked : List Edge → List EdgeNo → ℕ → Bool
is_blanked edges by column = list_any (blanks edges column) by
