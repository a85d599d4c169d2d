use Rattle.std.proofs.Common.{◌∙◌, ap, sym}
use Rattle.std.proofs.lemmas.Result.{IfOk-weaker}
use Rattle.query_model.specs.Query.{reply_of, selected}
use Rattle.query_eval.proofs.BoundSelects.{view_query_rows, view_there}
use Rattle.query_eval.proofs.reply.select_from_view.Goals as goal

pub view_rows-requires-clause-source : goal.view_rows-requires-clause-source
view_rows-requires-clause-source g c =
    view_there (g.V.StoreView.db c.args.view.now).schema c.args.number.0 c.index-items-number.result c.requires.views c.requires.there
    (rw (c.items.ensures, c.schema.ensures) at c.index-items-number.is)

pub returns : goal.returns
returns g c =
    let schema = (g.V.StoreView.db c.args.view.now).schema in
    let own = rw (c.items.ensures, c.schema.ensures) at c.index-items-number.is in
    let rows = view_query_rows schema (g.V.StoreView.db c.args.view.now).rows c.args.query.now c.args.number c.index-items-number.result c.requires.viewed c.requires.there own in
    let shown = ap (selected c.args.query.now) (c.items-2.ensures ∙ c.in_ok-rows.ensures) ∙ sym rows in
    IfOk-weaker c.select_rows.result _ _ (λ reply is. is ∙ ap reply_of shown) c.select_rows.ensures
