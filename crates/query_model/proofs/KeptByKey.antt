-- Rows that a condition with `primary key = literal` keeps: the row of that key, where it is kept.
use Rattle.std.proofs.Common.{◌≡◌, List, true, false, Some, refl, sym, ap, ◌∙◌}
use Rattle.std.specs.List.{AllByRecursion as Each, filter, find}
use Rattle.std.specs.Option.{option_to_list}
use Rattle.own_base.specs.declared.value.Key.{Key}
use Rattle.own_model.specs.declared.bound.BoundCond.{BoundCond}
use Rattle.own_model.specs.declared.schema.TableDef.{TableDef}
use Rattle.own_model.specs.declared.truth.Truth.{Truth as Answer}
use Rattle.own_model.specs.declared.truth.Truth.TheVariants.{True, False, Unknown}
use Rattle.own_model.specs.Db.{IsRising, Row, key_of}
use Rattle.own_model.specs.Stored.{has_key, is_equal}
use Rattle.query_model.specs.Footprints.{pinned_by}
use Rattle.query_model.specs.Truth.{cell, is_true, keeps, truth}
use Rattle.query_model.specs.Stored.{IsStored}
use Rattle.query_model.proofs.PinnedRow.{true_pins}
use Rattle.query_model.proofs.RowOfKey.{passing_of_rising}

module _ (table : TableDef) (condition : BoundCond) (key : Key) (pins : pinned_by table.key.0 condition ≡ Some key) where
  -- a row of another key isn't kept
  pub not_kept : (row : Row) → IsStored (cell row table.key.0) → has_key table key row ≡ false → keeps (Some condition) row ≡ false
  unfolding key_of
  not_kept row stored other = by (truth row condition) refl
    where
      by : (answer : Answer) → truth row condition ≡ answer → is_true answer ≡ false
      by True is = let equal = true_pins row table.key.0 key stored condition pins is in let never : true ≡ false = ap is_equal (sym equal) ∙ other in cc
      by False is = refl
      by Unknown is = refl

  -- the rows that are kept are that of the key, where it is kept
  pub kept_of_rising : (rows : List Row) → IsRising table rows → Each (λ row. IsStored (cell row table.key.0)) rows
      → filter (keeps (Some condition)) rows ≡ filter (keeps (Some condition)) (option_to_list (find (has_key table key) rows))
  kept_of_rising = passing_of_rising table key (keeps (Some condition)) not_kept
