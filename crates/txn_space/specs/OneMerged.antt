-- That tables are merged has one proof.
use Rattle.std.specs.Prelude.{List}
use Rattle.std.specs.Coded.{Coded, Coded-set, codes}
use Rattle.std.specs.List.{AllByRecursion-prop}
use Rattle.own_model.specs.Db.{Row}
use Rattle.txn_space.specs.Merged.{AreMerged}
use Rattle.txn_space.specs.declared.merged.MergedTable.{MergedTable}

rows-coded : Coded (List Row)
rows-coded = Prim.hlevel codes

pub merged-prop : (rows : List (List Row)) (tables : List MergedTable) → IsProp (AreMerged rows tables)
merged-prop rows tables = AllByRecursion-prop _ (λ merged. Coded-set rows-coded _ _) tables
