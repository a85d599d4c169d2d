use Rattle.std.proofs.Common.{◌∙◌, ap}
use Rattle.own_model.specs.Db.{Db}
use Rattle.link_model.specs.Whose.{owners_at}
use Rattle.store_version.proofs.owned.OwnedRows.owners.Goals as goal

pub returns : goal.returns
returns c = c.owners.ensures ∙ (c.self.invariant.owners c.args.name.now ∙ ap (λ (db : Db). owners_at db c.args.name.now) c.self.view_is)
