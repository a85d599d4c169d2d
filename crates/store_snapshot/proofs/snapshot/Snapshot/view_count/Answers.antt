use Rattle.std.proofs.Common.{subst}
use Rattle.own_model.specs.Db.{Db}
use Rattle.view_select.specs.ShowsViews.{ShowsViews}
use Rattle.view_select.proofs.ShownRuns.{counted}
use Rattle.store_snapshot.proofs.snapshot.Snapshot.view_count.Goals as goal

pub returns : goal.returns
returns c =
    let shows = subst (λ (db : Db). ShowsViews db c.views.result.now) c.version.ensures.same c.views.ensures in
    counted c.args.self.now c.views.result.now c.args.view c.version.ensures.well_formed shows c.view_count.result c.view_count.ensures
