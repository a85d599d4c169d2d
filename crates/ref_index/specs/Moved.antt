-- The indexes of columns after changes.
use Rattle.std.specs.Prelude.{◌≡◌, ℕ, List, Option, map}
use Rattle.std.specs.List.{AllByRecursion}
use Rattle.own_base.specs.declared.change.Change.{Change}
use Rattle.own_base.specs.declared.number.ColNo.{ColNo}
use Rattle.own_base.specs.declared.number.TableNo.{TableNo}
use Rattle.own_base.specs.declared.value.Key.{Key}
use Rattle.own_model.specs.Db.{Row}
use Rattle.ref_index.specs.AfterChanges.{after_changes, Fit}
use Rattle.ref_index.specs.IndexOf.{IsIndexOf}
use Rattle.ref_index.specs.declared.column_index.ColumnIndex.{ColumnIndex}

-- the table and the column of an index
abbrev pub place_of : ColumnIndex → TableNo × ColNo
place_of one = (one.table, one.column)

-- each is the index of the rows of its table
abbrev pub AreIndexes : (ℕ → Key → Option Row) → List ColumnIndex → Type 0
AreIndexes rows index = AllByRecursion (λ one. IsIndexOf one.column.0 (rows one.table.0) one.pairs) index

-- those of the same columns, of rows after the changes
pub record AreMoved (changes : List Change) (before after : List ColumnIndex) : Type 0 where
  pub places : map place_of after ≡ map place_of before
  pub indexes : (rows : ℕ → Key → Option Row) → ((table : ℕ) → Fit table changes (rows table)) → AreIndexes rows before → AreIndexes (λ table. after_changes table changes (rows table)) after
