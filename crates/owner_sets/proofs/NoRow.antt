-- Where there is no row, there is nothing.
use Rattle.std.proofs.Common.{◌≡◌, ℕ, ◌≤◌, List, [], length, get_or, inl, inr, arith}
use Rattle.std.specs.Prelude.{None, slice_get}
use Rattle.std.proofs.lemmas.List.{get_or_past}
use Rattle.std.proofs.lemmas.Option.{slice_get_cases}

-- a place at which a list has nothing is past its end
past_end : {X : Type 0} (xs : List X) (place : ℕ) → slice_get xs place ≡ None → length xs ≤ place
past_end xs place none = elim (slice_get_cases xs place).1 [
  | inl (x, within, there, at) ↦ let never : ⊥ = cc in absurd never
  | inr (past, gone) ↦ past
]

-- so a list of lists that is as long has nothing there
pub nothing_past : {X Y : Type 0} (rows : List X) (lists : List (List Y)) (place : ℕ) → length lists ≡ length rows → slice_get rows place ≡ None → get_or lists place [] ≡ []
nothing_past rows lists place same none = let past = past_end rows place none in get_or_past lists place [] (omega arith)
