-- Pages.
use Rattle.std.specs.Prelude.{◌≡◌, ◌<◌, ◌≤◌, List, ◌∷◌, length}
use Rattle.std.specs.List.{AllByRecursion, flat_map}
use Rattle.page_model.specs.declared.TheConstants.{PAGE_ITEMS}

-- a page has an item, and no more than fit
pub record IsPage {T : Type 0} (page : List T) : Type 0 where
  pub some : 0 < length page
  pub fits : length page ≤ PAGE_ITEMS

abbrev pub ArePages : {T : Type 0} → List (List T) → Type 0
ArePages pages = AllByRecursion IsPage pages

-- the items of pages, in their order
abbrev pub joined : {T : Type 0} → List (List T) → List T
joined pages = flat_map (λ page. page) pages

-- pages whose first item is this one
pub record IsFirst {T : Type 0} (first : T) (pages : List (List T)) : Type 0 where
  pub others : List T
  pub behind : List (List T)
  pub is : pages ≡ (first ∷ others) ∷ behind
