-- The rows of one table, and a change of one of them.
use Rattle.std.specs.Prelude.{◌≡◌, List, Option, IfSome}
use Rattle.std.specs.List.{AllByRecursion}
use Rattle.own_base.specs.Key.{key_cmp}
use Rattle.own_base.specs.declared.value.Key.{Key}
use Rattle.own_model.specs.declared.schema.TableDef.{TableDef}
use Rattle.own_model.specs.Db.{Row, key_of}
use Rattle.page_model.specs.Changed.{with_change}
use Rattle.page_model.specs.Found.{found}
use Rattle.page_model.specs.Rising.{IsRising}
use Rattle.query_model.specs.Stored.{IsStoredRow}

-- they stand by key, and hold no sums
pub record AreRows (table : TableDef) (rows : List Row) : Type 0 where
  pub rise : IsRising (key_of table) key_cmp rows
  pub stored : AllByRecursion IsStoredRow rows

-- the row of a key
abbrev pub row_at : TableDef → List Row → Key → Option Row
row_at table rows key = found (key_of table) key_cmp key rows

-- a row that may stand under a key
pub record StandsUnder (table : TableDef) (key : Key) (row : Row) : Type 0 where
  pub keyed : key_of table row ≡ key
  pub stored : IsStoredRow row

-- what stands under a key before a change, and what may stand there after it
pub record Fits (table : TableDef) (rows : List Row) (key : Key) (before after : Option Row) : Type 0 where
  pub was : before ≡ row_at table rows key
  pub may : IfSome after (StandsUnder table key)

-- the rows after it
abbrev pub changed : TableDef → Key → Option Row → List Row → List Row
changed table key after rows = with_change (key_of table) key_cmp key after rows

-- What is kept of the rows of a table becomes what is kept of the rows after a change.
abbrev pub Follows : {S : Type 0} → (List Row → S → Type 0) → TableDef → Key → Option Row → Option Row → S → S → Type 0
Follows Keeps table key before after old new =
    (rows : List Row) → AreRows table rows → Fits table rows key before after → Keeps rows old → Keeps (changed table key after rows) new
