-- A fault that is kept, by its rank.
use Rattle.std.specs.Prelude.{ℕ, ◌≤◌, Option, None, Some}
use Rattle.own_model.specs.declared.refusal.Refusal.{Refusal}
use Rattle.query_model.specs.Refused.{rank}

-- a fault of this rank is kept, or one of a lower rank
abbrev pub IsNoted : ℕ → Option Refusal → Type 0
IsNoted limit None = ⊥
IsNoted limit (Some fault) = rank fault ≤ limit
