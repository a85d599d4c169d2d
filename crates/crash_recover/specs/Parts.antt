-- What is split off in front of bytes.
use Rattle.std.specs.Prelude.{◌≡◌, ℕ, ◌≤◌, List, ◌++◌, length}

-- the first so many bytes, and those behind them, of which there is at least one
pub record AreInFront (bytes : List ℕ) (count : ℕ) (front rest : List ℕ) : Type 0 where
  pub whole : bytes ≡ front ++ rest
  pub long : length front ≡ count
  pub some : 1 ≤ length rest
