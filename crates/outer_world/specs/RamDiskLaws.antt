-- What a RAM disk tells of crashes is as the laws of a disk ask.
use Rattle.std.specs.Prelude.{◌≡◌, ℕ, ◌<◌, ◌≤◌, List, ◌∷◌, [], length}
use Rattle.std.proofs.Common.{inl, inr, arith}
use Rattle.outer_world.specs.RamDisk.{RamState, HeldSince}

-- what was held at a moment or later was held at one of the moments so far
held_before : (pairs : List (List ℕ × List ℕ)) (since : ℕ) (a b : List ℕ) → HeldSince pairs since a b → since < length pairs
held_before [] since a b might = absurd might
held_before (pair ∷ before) since a b (inl now) = omega (arith, now.0)
held_before (pair ∷ before) since a b (inr earlier) = omega (arith, held_before before since a b earlier)

pub ram_now_counts : (disk : RamState) (since : ℕ) (a b : List ℕ) → since ≤ length disk.past → a ≡ disk.a → b ≡ disk.b
    → HeldSince ((disk.a, disk.b) ∷ disk.past) since a b
ram_now_counts disk since a b before in_a in_b = inl (before, in_a, in_b)

pub ram_only_now : (disk : RamState) (a b : List ℕ) → HeldSince ((disk.a, disk.b) ∷ disk.past) (length disk.past) a b
    → (a ≡ disk.a) × (b ≡ disk.b)
ram_only_now disk a b (inl now) = (now.1, now.2)
ram_only_now disk a b (inr earlier) = absurd (omega (arith, held_before disk.past (length disk.past) a b earlier))
