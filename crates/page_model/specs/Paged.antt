-- What a sequence in pages represents.
use Rattle.std.specs.Prelude.{List}
use Rattle.page_model.specs.Page.{joined}

-- how an item's key is found, and the pages in their order
pub record Paged (By T : Type 0) : Type 0 where
  pub by : By
  pub pages : List (List T)

-- the items, in their order
abbrev pub items : {By T : Type 0} → Paged By T → List T
items paged = joined paged.pages
