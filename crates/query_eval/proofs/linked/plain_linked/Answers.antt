use Rattle.std.proofs.Common.{◌∙◌, List, Option, Some, ap, subst}
use Rattle.std.specs.List.{filter}
use Rattle.std.specs.Option.{option_copied}
use Rattle.std.proofs.lemmas.Result.{IfOk-weaker}
use Rattle.own_model.specs.declared.bound.BoundCond.{BoundCond}
use Rattle.own_model.specs.declared.limit.TheConstants.{REPLY_ROWS}
use Rattle.own_model.specs.Db.{Row}
use Rattle.query_model.specs.Query.{base_rows, reply_of}
use Rattle.query_model.specs.Truth.{keeps}
use Rattle.query_eval.specs.Enough.{IsEnough}
use Rattle.query_eval.proofs.FoundWeaker.{found_some}
use Rattle.query_eval.proofs.LinkedSelects.{plain_are}
use Rattle.query_eval.proofs.linked.plain_linked.Goals as goal

pub returns-in-Some : goal.returns-in-Some
returns-in-Some g c =
    let db = g.V.StoreView.db c.args.view.now in
    let all = base_rows db.rows c.args.query.now.source in
    let enough : IsEnough (Some REPLY_ROWS) (filter (keeps c.args.query.now.cond) all) c.in-Some.kept =
    subst (λ (condition : Option BoundCond). IsEnough (Some REPLY_ROWS) (filter (keeps condition) all) c.in-Some.kept) c.as_ref.ensures.value (found_some _ _ _ c.in-Some.is c.in_ok-kept.ensures) in
    IfOk-weaker c.plain_reply.result _ _ (λ reply is. is (filter (keeps c.args.query.now.cond) all) enough ∙ ap (λ (rows : List Row). reply_of rows) (plain_are db.schema db.rows c.args.query.now c.requires.source c.requires.plain)) c.plain_reply.ensures.enough
