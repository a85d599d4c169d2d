-- The rows of a table, as they lie in pages.
use Rattle.std.specs.Prelude.{List}
use Rattle.own_base.specs.declared.number.ColNo.{ColNo}
use Rattle.own_model.specs.Db.{Row}
use Rattle.page_model.specs.Page.{joined}

-- the column that is the rows' primary key, and the pages in key order
pub record Part : Type 0 where
  pub key : ColNo
  pub pages : List (List Row)

-- the rows, in key order
abbrev pub rows_of : Part → List Row
rows_of part = joined part.pages
