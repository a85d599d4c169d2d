-- A page that was cut.
use Rattle.std.specs.Prelude.{◌≡◌, ◌++◌, List, [], ◌∷◌}
use Rattle.page_model.specs.Page.{ArePages}

-- the items are those of a page and those of one more page behind it
pub record IsCut {T : Type 0} (items page : List T) (others : List (List T)) : Type 0 where
  pub other : List T
  pub is : others ≡ other ∷ []
  pub all : items ≡ page ++ other
  pub pages : ArePages (page ∷ others)
