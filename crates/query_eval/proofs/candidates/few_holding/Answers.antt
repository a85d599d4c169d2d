use Rattle.std.proofs.Common.{◌∙◌, sym}
use Rattle.own_model.specs.Stored.{rows_at}
use Rattle.query_eval.proofs.MeetingHolders.{holding_meets}
use Rattle.query_eval.proofs.TableRows.{stored_at, stored_cells}
use Rattle.query_eval.proofs.candidates.few_holding.Goals as goal

-- Those that hold the key meet the value.
pub returns-in_ok-rows-in-Some : goal.returns-in_ok-rows-in-Some
returns-in_ok-rows-in-Some g c =
    let all = (g.V.StoreView.db c.args.view.now).rows in
    let rows = rows_at all c.args.table.0 in
    c.in_ok-rows-in-Some.ensures
    ∙ holding_meets c.args.value.now c.args.column.0 c.in-Some.key (sym c.in_ok-literal_key.ensures ∙ c.in-Some.is) rows (stored_cells c.args.column.0 rows (stored_at all c.args.table.0 c.requires.tables.stored))
