-- What a node represents.
use Rattle.std.specs.Prelude.{ℕ, List}

-- its pages in their order, and how many nodes stand below it
pub record Branch (T : Type 0) : Type 0 where
  pub pages : List (List T)
  pub below : ℕ
