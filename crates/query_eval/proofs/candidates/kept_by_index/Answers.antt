use Rattle.std.proofs.Common.{◌∙◌}
use Rattle.std.specs.Option.{option_copied}
use Rattle.query_eval.proofs.CandidateLemmas.{kept_from}
use Rattle.query_eval.proofs.FoundWeaker.{found_some}
use Rattle.query_eval.proofs.candidates.kept_by_index.Goals as goal

pub returns-in_ok-kept-in-Some : goal.returns-in_ok-kept-in-Some
returns-in_ok-kept-in-Some g c =
    let db = g.V.StoreView.db c.args.view.now in
    c.in_ok-kept-in-Some.ensures ∙ kept_from db.schema db.rows c.args.table (option_copied c.args.cond) c.in-Some.rows c.requires.there (found_some _ _ _ c.in-Some.is c.in_ok-few_by_any.ensures)
