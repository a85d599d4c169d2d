-- What a walk over pages has left.
use Rattle.std.specs.Prelude.{ℕ, List, ◌++◌, drop}
use Rattle.page_model.specs.Page.{joined}

-- what is left of a page, and the pages from a number on
abbrev pub items_left : {T : Type 0} → List T → ℕ → List (List T) → List T
items_left page next pages = page ++ joined (drop next pages)
