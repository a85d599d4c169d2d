-- Pieces at the front of bytes that nothing which comes later changes.
use Rattle.std.specs.Prelude.{ℕ, Bool, List, ◌++◌}
use Rattle.script_model.specs.Piece.{Piece, ArePieces}

-- whatever more comes, the bytes are these pieces and then the rest
abbrev pub AreSettled : Bool → List Piece → List ℕ → List ℕ → Type 0
AreSettled begins pieces bytes rest = (more : List ℕ) → ArePieces begins pieces (bytes ++ more) (rest ++ more)
