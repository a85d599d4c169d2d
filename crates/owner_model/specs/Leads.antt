-- Which tables walks lead to, as a test.
use Rattle.std.specs.Prelude.{ℕ, List, [], ◌∷◌, Bool, false, ◌||◌, ◌&&◌, ◌==◌}
use Rattle.own_model.specs.declared.schema.Edge.{Edge}

-- Whether a walk of one edge or more leads from one table up to another: one that doesn't go along the first edge, or
-- one that comes to that edge, goes along it, and goes on without it.
unfoldable pub leads : List Edge → ℕ → ℕ → Bool
leads [] from to = false
leads (edge ∷ edges) from to = leads edges from to
    || ((from == edge.lower.0 || leads edges from edge.lower.0) && (edge.upper.0 == to || leads edges edge.upper.0 to))

-- whether a walk of any length does, also of none
abbrev pub arrives : List Edge → ℕ → ℕ → Bool
arrives edges from to = from == to || leads edges from to
