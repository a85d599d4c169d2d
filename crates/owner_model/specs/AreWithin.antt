-- Edges over so many tables.
use Rattle.std.specs.Prelude.{ℕ, ◌<◌, List}
use Rattle.std.specs.List.{AllByRecursion}
use Rattle.own_model.specs.declared.schema.Edge.{Edge}

-- each edge is between two of them
abbrev pub AreWithin : ℕ → List Edge → Type 0
AreWithin tables edges = AllByRecursion (λ edge. (edge.lower.0 < tables) × (edge.upper.0 < tables)) edges
