-- Lists of what has a format, and rows as bytes.
use Rattle.std.specs.Prelude.{◌≡◌, ℕ, ◌≤◌, List, [], ◌∷◌, length}
use Rattle.own_model.specs.declared.limit.TheConstants.{TABLE_COLUMNS}
use Rattle.own_model.specs.Db.{Row}
use Rattle.disk_model.specs.Number.{Format, IsNumber}
use Rattle.disk_model.specs.Value.{IsValue}

-- one behind another
abbrev pub AreItems : {A : Type 0} → Format A → Format (List A)
AreItems format [] bytes rest = bytes ≡ rest
AreItems format (item ∷ items) bytes rest = (middle : List ℕ) × format item bytes middle × AreItems format items middle rest

-- four bytes for their number, and then one behind another
abbrev pub IsList : {A : Type 0} → Format A → Format (List A)
IsList format items bytes rest = (middle : List ℕ) × IsNumber 4 (length items) bytes middle × AreItems format items middle rest

-- the list of its values, at least one and no more than a table has columns
abbrev pub IsRow : Format Row
IsRow row bytes rest = (1 ≤ length row) × (length row ≤ TABLE_COLUMNS) × IsList IsValue row bytes rest
