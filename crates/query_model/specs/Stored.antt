-- Rows of tables hold no sums: those stand in the rows of views and replies alone.
use Rattle.std.specs.Prelude.{List}
use Rattle.std.specs.List.{All}
use Rattle.own_base.specs.declared.value.Value.{Value}
use Rattle.own_base.specs.declared.value.Value.TheVariants.{Null, Int, Text, Sum}
use Rattle.own_model.specs.Db.{Row}

-- a value that may stand in a table
abbrev pub IsStored : Value → Type 0
IsStored Null = Unit {0}
IsStored (Int number) = Unit {0}
IsStored (Text bytes) = Unit {0}
IsStored (Sum number) = ⊥

abbrev pub IsStoredRow : Row → Type 0
IsStoredRow row = All IsStored row

abbrev pub AreStored : List Row → Type 0
AreStored rows = All IsStoredRow rows
