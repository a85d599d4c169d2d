use Rattle.std.proofs.Common.{List, ◌≡◌, ◌∙◌, subst, sym}
use Rattle.std.specs.Prelude.{IfOk}
use Rattle.std.specs.Option.{option_copied, unwrap_or}
use Rattle.own_base.specs.declared.value.Value.TheVariants.{Null}
use Rattle.own_model.specs.Db.{Row}
use Rattle.own_model.specs.Stored.{rows_at}
use Rattle.query_eval.proofs.MeetingByKey.{meeting-no_key}
use Rattle.query_eval.proofs.MeetingHolders.{holding_meets}
use Rattle.query_eval.proofs.TableRows.{stored_at, stored_cells}
use Rattle.query_eval.proofs.holding.meeting_holders.Goals as goal

-- Those that hold the key meet the value.
pub returns-in-Some : goal.returns-in-Some
returns-in-Some g c =
    let all = (g.V.StoreView.db c.args.view.now).rows in
    let rows = rows_at all c.args.table.0 in
    subst (λ (met : List Row). IfOk c.rows_holding.result (λ found. found ≡ met))
    (holding_meets (unwrap_or (option_copied c.args.value) Null) c.args.column.0 c.in-Some.key (sym c.in_ok-key.ensures ∙ c.in-Some.is) rows (stored_cells c.args.column.0 rows (stored_at all c.args.table.0 c.requires.tables.stored)))
    c.rows_holding.ensures

-- What is no key meets nothing.
pub returns-in-None : goal.returns-in-None
returns-in-None g c =
    c.new.ensures ∙ meeting-no_key (unwrap_or (option_copied c.args.value) Null) c.args.column.0 (rows_at (g.V.StoreView.db c.args.view.now).rows c.args.table.0) (sym c.in_ok-key.ensures ∙ c.in-None.is) c.requires.stored
