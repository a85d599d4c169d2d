-- Items that are lent together.
use Rattle.std.specs.Prelude.{◌≡◌, ◌<◌, ◌++◌, ℕ, List, drop, length}

-- items that stand one after another from this place on: some where there is one at the place, and none past the end
pub record IsRunFrom {T : Type 0} (items : List T) (place : ℕ) (run : List T) : Type 0 where
  pub rest : List T
  pub follow : drop place items ≡ run ++ rest
  pub some : place < length items → 0 < length run
