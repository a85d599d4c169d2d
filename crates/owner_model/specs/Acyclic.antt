-- Edges along which no walk closes.
use Rattle.std.specs.Prelude.{ℕ, List}
use Rattle.own_model.specs.declared.schema.Edge.{Edge}
use Rattle.owner_model.specs.Walk.{Leads}

-- no walk leads from a table back to it
pub record IsAcyclic (edges : List Edge) : Type 0 where
  pub unclosed : (table : ℕ) → ¬ (Leads edges table table)
