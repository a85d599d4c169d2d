-- What a change makes of the bytes of two areas.
use Rattle.std.specs.Prelude.{ℕ, List, Bool, true, false, take}
use Rattle.outer_world.specs.Overwritten.{overwritten}

-- these bytes at a place of the first, or else of the second
abbrev pub written_pair : List ℕ × List ℕ → Bool → ℕ → List ℕ → List ℕ × List ℕ
written_pair pair true place piece = (overwritten pair.0 place piece, pair.1)
written_pair pair false place piece = (pair.0, overwritten pair.1 place piece)

-- the first, or else the second, cut to a length
abbrev pub cut_pair : List ℕ × List ℕ → Bool → ℕ → List ℕ × List ℕ
cut_pair pair true len = (take len pair.0, pair.1)
cut_pair pair false len = (pair.0, take len pair.1)
