use Rattle.std.proofs.Common.{List, subst}
use Rattle.std.specs.Option.{option_copied}
use Rattle.own_model.specs.Db.{Row}
use Rattle.own_model.specs.Stored.{rows_at}
use Rattle.query_eval.specs.Enough.{IsEnough}
use Rattle.query_eval.proofs.CandidateLemmas.{definition_at}
use Rattle.query_eval.proofs.FoundWeaker.{found_some}
use Rattle.query_eval.proofs.JoinCandidates.{pairs_of_candidates}
use Rattle.query_eval.proofs.looked_up.kept_looked_up.Goals as goal

-- The candidates have all pairs that WHERE keeps.
pub returns-in_ok-kept-in-Some : goal.returns-in_ok-kept-in-Some
returns-in_ok-kept-in-Some g c =
    let db = g.V.StoreView.db c.args.view.now in
    let own = definition_at db.schema c.args.tables.left c.requires.left in
    subst (λ (pairs : List Row). IsEnough c.args.most pairs c.in_ok-kept-in-Some.kept)
    (pairs_of_candidates (option_copied c.args.cond) c.args.tables.left_column.0 c.args.tables.right_column.0 (rows_at db.rows c.args.tables.right.0) own.0 (rows_at db.rows c.args.tables.left.0) c.in-Some.lefts
    (c.requires.whole own.0 own.1) (found_some _ _ _ c.in-Some.is c.in_ok-candidates.ensures own.0 own.1))
    c.in_ok-kept-in-Some.ensures
