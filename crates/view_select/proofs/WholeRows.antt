-- Rows that may stand in their tables have all their values.
use Rattle.std.proofs.Common.{List}
use Rattle.own_base.specs.declared.number.TableNo.{TableNo}
use Rattle.own_model.specs.declared.schema.Schema.{Schema}
use Rattle.own_model.specs.Db.{Row}
use Rattle.own_model.specs.Stored.{rows_at}
use Rattle.page_model.proofs.RisingLemmas.{each_weaker}
use Rattle.query_eval.specs.WholeRows.{AreWhole, IsWhole}
use Rattle.state_model.specs.Rows.{AreRowsOf, IsRowOf}
use Rattle.state_model.proofs.StoredRows.{length-of_kinds, rows-at}

pub whole_rows : (schema : Schema) (rows : List (List Row)) → AreRowsOf schema.tables rows → (table : TableNo) → AreWhole schema rows table
whole_rows schema rows are table definition at =
    each_weaker (IsRowOf definition) (IsWhole definition) (λ row own. record { wide = length-of_kinds definition.columns row own.kinds; keyed = own.keyed }) (rows_at rows table.0) (rows-at schema.tables rows table.0 definition are at)
