-- Walks over the edges of an ownership graph.
use Rattle.std.specs.Prelude.{◌≡◌, ◌⊎◌, ℕ, List, [], ◌∷◌, Contains}
use Rattle.std.specs.List.{AllByRecursion}
use Rattle.own_model.specs.declared.schema.Edge.{Edge}

-- the edges lead from one table up to another: each goes out of the table at which the one before it ends
abbrev pub IsWalk : ℕ → List Edge → ℕ → Type 0
IsWalk from [] to = from ≡ to
IsWalk from (edge ∷ rest) to = (edge.lower.0 ≡ from) × IsWalk edge.upper.0 rest to

-- a walk of one edge or more, all of these edges
pub record Leads (edges : List Edge) (from to : ℕ) : Type 0 where
  pub first : Edge
  pub rest : List Edge
  pub among : AllByRecursion (Contains edges) (first ∷ rest)
  pub walk : IsWalk from (first ∷ rest) to

-- a walk of any length, also of none
abbrev pub Arrives : List Edge → ℕ → ℕ → Type 0
Arrives edges from to = (from ≡ to) ⊎ Leads edges from to
