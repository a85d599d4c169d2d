-- What stands between two semicolons or session lines of an input: at most one call.
use Rattle.std.specs.Prelude.{ℕ, List, [], ◌∷◌}
use Rattle.script_model.specs.Piece.{Piece, Semicolon, SessionLine}

-- what a call's text meets: a semicolon, a session line, by what follows `-- session ` on it, or the end of the input
pub data Ending : Type 0 where
  AtSemicolon : Ending
  AtSession : List ℕ → Ending
  AtEnd : Ending

-- pieces, and what comes right after them
pub record Stretch : Type 0 where
  pub pieces : List Piece
  pub ending : Ending

-- a piece more in front of the first stretch
abbrev pub onto_first : Piece → List Stretch → List Stretch
onto_first piece [] = []
onto_first piece (first ∷ stretches) = record { pieces = piece ∷ first.pieces; ending = first.ending } ∷ stretches

-- the pieces, cut at each semicolon and at each session line
unfoldable pub stretches : List Piece → List Stretch
stretches [] = record { pieces = []; ending = AtEnd } ∷ []
stretches (Semicolon ∷ pieces) = record { pieces = []; ending = AtSemicolon } ∷ stretches pieces
stretches (SessionLine line ∷ pieces) = record { pieces = []; ending = AtSession line } ∷ stretches pieces
stretches (piece ∷ pieces) = onto_first piece (stretches pieces)
