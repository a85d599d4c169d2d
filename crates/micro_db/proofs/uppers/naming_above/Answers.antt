use Rattle.std.proofs.Common.{List, map, ap, ◌∙◌}
use Rattle.std.specs.Prelude.{◌≡◌}
use Rattle.std.proofs.lemmas.Result.{IfOk-weaker}
use Rattle.own_base.specs.declared.row_name.RowName.{RowName}
use Rattle.own_model.specs.Db.{Db}
use Rattle.link_model.specs.Holds.{holders_at}
use Rattle.owner_index.specs.Referrers.{named}
use Rattle.micro_db.specs.Uppers.{AreUppersAlong}
use Rattle.micro_db.proofs.ByLemmas.{uppers-naming}
use Rattle.micro_db.proofs.uppers.naming_above.Goals as goal

pub returns : goal.returns
returns g c =
    let db = g.N.StoreView.db c.args.after.now in
    let edge = c.args.edge.now in
    IfOk-weaker c.referrers.result (λ (names : List RowName). names ≡ map (named edge.holder) (holders_at (g.N.Referring.linked c.args.after.now) edge.holder.0 edge.column.0 c.args.name.now.key))
    (AreUppersAlong db c.args.name.now edge)
    (λ names is. uppers-naming db c.args.name.now edge c.requires.among c.requires.of_lower c.requires.there c.requires.held c.requires.owner (g.met.N.StoreView.ordered c.args.after.now) names
    (is ∙ ap (λ (of : Db). map (named edge.holder) (holders_at of edge.holder.0 edge.column.0 c.args.name.now.key)) (g.met.N.Linked.one c.args.after.now)))
    c.referrers.ensures
