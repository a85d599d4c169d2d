-- What stands between tokens: white space, and comments.
use Rattle.std.specs.Prelude.{◌≡◌, ◌≢◌, ℕ, Bool, false, nat_eq, ◌||◌, IsTrue, List, [], ◌∷◌, ◌++◌, drop, All}
use Rattle.std.specs.List.{starts_with}
use Rattle.sql_lex.specs.Bytes.{is_space, first_passes}

-- a byte of white space, or a comment: two dashes and what follows them in their line
pub data Filler : Type 0 where
  Space : ℕ → Filler
  Comment : List ℕ → Filler

-- the bytes of a filler
abbrev pub bytes_of : Filler → List ℕ
bytes_of (Space byte) = byte ∷ []
bytes_of (Comment line) = 45 ∷ 45 ∷ line

-- the end of a line, or of the text
abbrev pub EndsLine : List ℕ → Type 0
EndsLine [] = Unit {0}
EndsLine (byte ∷ bytes) = byte ≡ 10

-- a filler before these bytes: a comment goes on to the end of its line
abbrev pub IsFiller : Filler → List ℕ → Type 0
IsFiller (Space byte) after = IsTrue (is_space byte)
IsFiller (Comment line) after = All (λ byte. byte ≢ 10) line × EndsLine after

-- the bytes are these fillers, and what comes after them
abbrev pub Fills : List Filler → List ℕ → List ℕ → Type 0
Fills [] bytes after = bytes ≡ after
Fills (filler ∷ fillers) bytes after =
    (middle : List ℕ) × (bytes ≡ bytes_of filler ++ middle) × IsFiller filler middle × Fills fillers middle after

-- white space or a comment stands at the front
abbrev pub begins_filler : List ℕ → Bool
begins_filler bytes = first_passes is_space bytes || starts_with nat_eq bytes (45 ∷ 45 ∷ [])

-- after all white space and comments at the front, these bytes come next
pub record Skips (bytes after : List ℕ) : Type 0 where
  pub fillers : List Filler
  pub fills : Fills fillers bytes after
  pub no_more : begins_filler after ≡ false

-- that many bytes at the front are one filler
abbrev pub FrontFiller : List ℕ → ℕ → Type 0
FrontFiller bytes len = (filler : Filler) × (bytes ≡ bytes_of filler ++ drop len bytes) × IsFiller filler (drop len bytes)
