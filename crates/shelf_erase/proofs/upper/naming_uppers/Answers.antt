use Rattle.std.proofs.Common.{◌∙◌, ap, map}
use Rattle.std.proofs.lemmas.Result.{IfOk-weaker}
use Rattle.own_model.specs.Db.{Db}
use Rattle.link_model.specs.Holds.{holders_at}
use Rattle.shelf_erase.specs.Upper.{named}
use Rattle.shelf_erase.proofs.UpperLemmas.{naming-uppers}
use Rattle.shelf_erase.proofs.upper.naming_uppers.Goals as goal

pub returns : goal.returns
returns g c =
    let db = g.V.StoreView.db c.args.view.now in
    let edge = c.args.edge.now in
    let name = c.args.name.now in
    IfOk-weaker c.referrers_of.result _ _
    (λ names is. naming-uppers db name edge c.args.row.now (record { among = c.requires.among; of_lower = c.requires.of_lower; row_is = c.requires.row }) c.requires.held c.requires.owner (g.met.V.StoreView.ordered c.args.view.now) names
    (is ∙ ap (λ (d : Db). map (named edge.holder) (holders_at d edge.holder.0 edge.column.0 name.key)) (g.met.V.Linked.one c.args.view.now)))
    c.referrers_of.ensures
