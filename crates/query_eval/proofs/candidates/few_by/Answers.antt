use Rattle.std.proofs.Common.{◌∙◌, subst, sym}
use Rattle.std.specs.Option.{option_copied}
use Rattle.own_model.specs.Stored.{rows_at}
use Rattle.query_eval.specs.Candidates.{AreCandidates}
use Rattle.query_eval.proofs.CandidateLemmas.{indexed_within, wanted_candidates}
use Rattle.query_eval.proofs.FoundWeaker.{found_weaker}
use Rattle.query_eval.proofs.TableRows.{stored_at}
use Rattle.query_eval.proofs.candidates.few_by.Goals as goal

-- What WHERE keeps has what it wants.
pub returns-else-count-le-HANDFUL : goal.returns-else-count-le-HANDFUL
returns-else-count-le-HANDFUL g c =
    let db = g.V.StoreView.db c.args.view.now in
    let all = rows_at db.rows c.args.table.0 in
    let condition = option_copied c.args.cond in
    found_weaker _ _
    (λ rows is definition at.
    subst (AreCandidates definition condition all) (sym is)
    (wanted_candidates definition condition all c.args.column.0 c.in-Some.value.now (indexed_within db.schema c.args.table.0 c.args.column.0 definition at (sym c.is_indexed.ensures ∙ c.if-is_indexed.true)) c.in-Some.ensures (stored_at db.rows c.args.table.0 c.requires.tables.stored)))
    c.few_holding.result c.few_holding.ensures
