use Rattle.std.proofs.Common.{◌≡◌, ◌∙◌, List, Option, ap, subst}
use Rattle.std.specs.List.{filter}
use Rattle.std.specs.Option.{option_copied}
use Rattle.std.proofs.lemmas.Result.{IfOk-weaker}
use Rattle.own_model.specs.declared.bound.BoundCond.{BoundCond}
use Rattle.own_model.specs.Db.{Row}
use Rattle.query_model.specs.Query.{base_rows, reply_of}
use Rattle.query_model.specs.Truth.{keeps}
use Rattle.query_eval.proofs.EnoughLemmas.{enough_all}
use Rattle.query_eval.proofs.FoundWeaker.{found_some}
use Rattle.query_eval.proofs.LinkedSelects.{grouped_are}
use Rattle.query_eval.proofs.StoredRows.{kept-stored}
use Rattle.query_eval.proofs.linked.group_linked.Goals as goal

-- What is kept of rows without sums holds none.
pub grouped_reply-requires : goal.grouped_reply-requires
grouped_reply-requires g c =
    kept-stored (keeps (option_copied c.as_ref.result)) (g.V.StoreView.db c.args.view.now).rows c.args.query.now.source c.in-Some.kept c.requires.tables.stored (enough_all _ c.in-Some.kept (found_some _ _ _ c.in-Some.is c.in_ok-kept.ensures))

pub returns-in-Some : goal.returns-in-Some
returns-in-Some g c =
    let db = g.V.StoreView.db c.args.view.now in
    let all = base_rows db.rows c.args.query.now.source in
    let kept : c.in-Some.kept ≡ filter (keeps c.args.query.now.cond) all =
    subst (λ (condition : Option BoundCond). c.in-Some.kept ≡ filter (keeps condition) all) c.as_ref.ensures.value (enough_all _ c.in-Some.kept (found_some _ _ _ c.in-Some.is c.in_ok-kept.ensures)) in
    IfOk-weaker c.grouped_reply.result _ _ (λ reply is. is ∙ ap (λ (rows : List Row). reply_of rows) (grouped_are db.schema db.rows c.args.query.now c.requires.source c.in-Some.kept c.requires.grouped kept)) c.grouped_reply.ensures
