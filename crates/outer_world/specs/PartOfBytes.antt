-- What a run of calls that ends with a fault has read or written, where the object tells it.
use Rattle.std.specs.Prelude.{ℕ, ◌<◌, List, Option, length, take}
use Rattle.std.specs.Io.KnownBytes.{Appends, Consumes}

-- what is written grew by a first part of the bytes, and not by all of them
abbrev pub AppendsPart : Option (List ℕ) → Option (List ℕ) → List ℕ → Type 0
AppendsPart old new bytes = (count : ℕ) × (count < length bytes) × Appends old new (take count bytes)

-- what remains lost fewer than `most` bytes at its front, and nothing else
abbrev pub ConsumesFewer : Option (List ℕ) → Option (List ℕ) → ℕ → Type 0
ConsumesFewer old new most = (bytes : List ℕ) × (length bytes < most) × Consumes old new bytes
