-- Rows in rising key order, from their end.
use Rattle.std.proofs.Common.{◌≡◌, List, [], ◌∷◌, length, map}
use Rattle.std.specs.List.{AllByRecursion}
use Rattle.std.specs.List.Sorted.{IsStrictlySortedBy}
use Rattle.std.specs.declared.cmp.Ordering.TheVariants.{Less}
use Rattle.own_base.specs.Key.{key_cmp}
use Rattle.own_model.specs.Db.{IsRising, Row, key_of}
use Rattle.own_model.specs.declared.schema.TableDef.{TableDef}

pub no_rows_rise : (table : TableDef) (rows : List Row) → length rows ≡ 0 → IsRising table rows
unfolding IsStrictlySortedBy
no_rows_rise table [] none = tt
no_rows_rise table (first ∷ rest) none = absurd (cc)

-- a row in front of rows that rise, with a key below theirs
pub rising_from : (table : TableDef) (first : Row) (rest : List Row)
    → AllByRecursion (λ key. key_cmp (key_of table first) key ≡ Less) (map (key_of table) rest) → IsRising table rest → IsRising table (first ∷ rest)
unfolding IsStrictlySortedBy
rising_from table first rest below rising = (below, rising)
