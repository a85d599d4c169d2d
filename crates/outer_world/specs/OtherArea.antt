-- The two areas.
use Rattle.std.specs.Prelude.{ℕ, List}
use Rattle.own_base.specs.declared.number.Area.{Area}
use Rattle.own_base.specs.declared.number.Area.TheVariants.{A, B}

-- the other of the two
abbrev pub other_of : Area → Area
other_of A = B
other_of B = A

-- the bytes of an area, of those in A and those in B
abbrev pub bytes_in : Area → List ℕ → List ℕ → List ℕ
bytes_in A a b = a
bytes_in B a b = b
