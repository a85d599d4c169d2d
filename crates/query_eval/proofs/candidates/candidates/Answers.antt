use Rattle.std.proofs.Common.{false}
use Rattle.std.specs.Option.{option_copied}
use Rattle.own_model.specs.Stored.{rows_at}
use Rattle.query_model.specs.Footprints.{key_column}
use Rattle.query_eval.proofs.CandidateLemmas.{key_of_table, span_candidates}
use Rattle.query_eval.proofs.candidates.candidates.Goals as goal

-- No row passes nowhere.
pub rows_in-requires-clause-span : goal.rows_in-requires-clause-span
rows_in-requires-clause-span g c = c.span_of-span.ensures (λ row. false) (λ k within passed. absurd (cc))

-- The span has each row that WHERE sees.
pub returns : goal.returns
returns g c definition at =
    let db = g.V.StoreView.db c.args.view.now in
    span_candidates definition (option_copied c.args.cond) (rows_at db.rows c.args.table.0) c.span_of-span.result (key_column db.schema c.args.table) c.in_ok-rows.rows (key_of_table db.schema c.args.table definition at)
    c.span_of-span.ensures c.in_ok-rows.ensures.stored c.in_ok-rows.ensures.each
