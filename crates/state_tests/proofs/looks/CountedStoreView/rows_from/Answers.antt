use Rattle.std.proofs.Common.{subst, sym, arith}
use Rattle.own_model.specs.Stored.{IsRunFrom, rows_at}
use Rattle.query_eval.proofs.SpanRows.{first_run}
use Rattle.state_tests.proofs.looks.CountedStoreView.rows_from.Goals as goal

pub returns : goal.returns
returns c =
    let rows = rows_at c.args.self.now.shown.version.now.rows c.args.table.0 in
    subst (IsRunFrom rows c.args.at) (sym c.first_of.ensures) (first_run rows c.args.at 1 c.rows_from.result.now (omega arith) c.rows_from.ensures)
