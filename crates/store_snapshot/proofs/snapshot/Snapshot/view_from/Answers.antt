use Rattle.std.proofs.Common.{subst}
use Rattle.own_model.specs.Db.{Db}
use Rattle.view_select.specs.ShowsViews.{ShowsViews}
use Rattle.view_select.proofs.WellFormedViews.{no_sums, views_of-created}
use Rattle.store_snapshot.proofs.snapshot.Snapshot.view_from.Goals as goal

pub returns : goal.returns
returns c =
    let db = c.args.self.now in
    let is = c.version.ensures.well_formed in
    let shows = subst (λ (db : Db). ShowsViews db c.views.result.now) c.version.ensures.same c.views.ensures in
    c.view_from.ensures db is.ordered (no_sums db is) (views_of-created db is.created) (shows is)
