use Rattle.std.proofs.Common.{refl}
use Rattle.std.specs.Option.{option_copied}
use Rattle.own_model.specs.Stored.{rows_at}
use Rattle.query_model.specs.Truth.{keeps}
use Rattle.query_eval.specs.KeyRange.{row_in}
use Rattle.query_eval.proofs.kept.kept_in_table.Goals as goal

-- A row that is kept is seen itself.
pub kept_by_runs-requires-clause-inside : goal.kept_by_runs-requires-clause-inside
kept_by_runs-requires-clause-inside g c =
    c.span_of.ensures (keeps (option_copied c.args.cond)) (λ k within passed. (row_in (rows_at (g.V.StoreView.db c.args.view.now).rows c.args.table.0) k, refl, passed))
