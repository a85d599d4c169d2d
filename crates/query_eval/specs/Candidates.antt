-- Rows among which WHERE finds all that it keeps.
use Rattle.std.specs.Prelude.{◌≡◌, ◌<◌, ℕ, List, Bool, true, Option, filter, length}
use Rattle.own_base.specs.declared.value.Value.{Value}
use Rattle.own_model.specs.declared.bound.BoundCond.{BoundCond}
use Rattle.own_model.specs.declared.condition.Cmp.TheVariants.{Eq}
use Rattle.own_model.specs.declared.schema.TableDef.{TableDef}
use Rattle.own_model.specs.Db.{Row}
use Rattle.query_model.specs.Stored.{AreStored, IsStored}
use Rattle.query_model.specs.Truth.{cell, keeps}
use Rattle.query_eval.specs.KeyRange.{is_taken, row_in}

-- a value that each row has in a column of which a test holds
pub record IsWanted (holds : Row → Bool) (column : ℕ) (value : Value) : Type 0 where
  pub stored : IsStored value
  pub taken : (row : Row) → holds row ≡ true → is_taken column Eq value row ≡ true

-- where a row of a table passes, a test holds of some row that has the same in each column of the table, as a pair with it has
abbrev pub IsSeenWhole : TableDef → (Row → Bool) → List Row → (Row → Bool) → Type 0
IsSeenWhole table holds rows passes =
    (k : ℕ) → k < length rows → passes (row_in rows k) ≡ true
    → (seen : Row) × ((column : ℕ) → column < length table.columns → cell seen column ≡ cell (row_in rows k) column) × (cell seen table.key.0 ≡ cell (row_in rows k) table.key.0) × (holds seen ≡ true)

-- some rows of a table have all that pass, where WHERE keeps what each that passes is seen in; and they hold no sums
pub record AreCandidates (table : TableDef) (condition : Option BoundCond) (all some : List Row) : Type 0 where
  pub stored : AreStored some
  pub each : (passes : Row → Bool) → IsSeenWhole table (keeps condition) all passes → filter passes some ≡ filter passes all
