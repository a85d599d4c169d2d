use Rattle.std.proofs.Common.{◌∙◌, ap}
use Rattle.own_model.specs.Db.{Db}
use Rattle.link_model.specs.Whose.{reach_at}
use Rattle.store_version.proofs.owned.OwnedRows.reach.Goals as goal

pub returns : goal.returns
returns c = c.reach.ensures ∙ (c.self.invariant.reach c.args.name.now ∙ ap (λ (db : Db). reach_at db c.args.name.now) c.self.view_is)
