-- The columns that edges rule, by either of their two rules.
use Rattle.std.specs.Prelude.{ℕ, List, Bool, ◌==◌, ◌&&◌}
use Rattle.std.specs.List.{list_any}
use Rattle.own_base.specs.declared.number.ColumnSet.{ColumnSet}
use Rattle.own_base.specs.declared.number.EdgeNo.{EdgeNo}
use Rattle.own_model.specs.declared.schema.Edge.{Edge}
use Rattle.owner_model.specs.ColumnSets.{has_column}
use Rattle.anon_rules.specs.declared.Rule.{Rule}
use Rattle.anon_rules.specs.declared.Rule.TheVariants.{Get, Del}

-- the columns that one edge rules
abbrev pub ruled : Rule → Edge → ColumnSet
ruled Get edge = edge.get
ruled Del edge = edge.del

-- whether an edge has this number and rules a column
abbrev pub rules_column : Rule → EdgeNo → Edge → ℕ → Bool
rules_column rule number edge column = edge.number.0 == number.0 && has_column (ruled rule edge) column

-- whether one of the edges of this number rules a column
abbrev pub is_ruled : Rule → List Edge → EdgeNo → ℕ → Bool
is_ruled rule edges number column = list_any (λ edge. rules_column rule number edge column) edges
