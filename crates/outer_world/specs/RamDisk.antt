-- What contracts see of a RAM disk.
use Rattle.std.specs.Prelude.{◌≡◌, ℕ, ◌≤◌, ◌⊎◌, List, ◌∷◌, [], length}
use Rattle.own_base.specs.declared.number.Area.{Area}
use Rattle.own_base.specs.declared.number.Area.TheVariants.{A, B}
use Rattle.outer_world.specs.OtherArea.{bytes_in}

-- what the two areas hold, what they held before each change, the latest first, and the count of faults
pub record RamState : Type 0 where
  pub a : List ℕ
  pub b : List ℕ
  pub past : List (List ℕ × List ℕ)
  pub faults : ℕ

-- the bytes of an area
abbrev pub held : RamState → Area → List ℕ
held disk area = bytes_in area disk.a disk.b

-- after a change that left these bytes in an area
abbrev pub with_area : RamState → Area → List ℕ → RamState
with_area disk A bytes = record disk { a = bytes; past = (disk.a, disk.b) ∷ disk.past }
with_area disk B bytes = record disk { b = bytes; past = (disk.a, disk.b) ∷ disk.past }

-- the areas held these bytes at that moment or later: each of the pairs was there at the moment that counts those before
-- it, and the latest comes first
abbrev pub HeldSince : List (List ℕ × List ℕ) → ℕ → List ℕ → List ℕ → Type 0
HeldSince [] since a b = ⊥
HeldSince (pair ∷ before) since a b = ((since ≤ length before) × (a ≡ pair.0) × (b ≡ pair.1)) ⊎ HeldSince before since a b
