use Rattle.std.proofs.Common.{◌∙◌, ap, map}
use Rattle.own_model.specs.Db.{Db}
use Rattle.link_model.specs.Holds.{holders_at}
use Rattle.owner_index.specs.Referrers.{named}
use Rattle.owner_index.proofs.AddsLemmas.{adds-naming}
use Rattle.micro_db.proofs.below.add_naming.Goals as goal

pub returns : goal.returns
returns g c =
    adds-naming (g.N.StoreView.db c.args.after.now) c.args.table c.args.column.0 c.args.key.now c.args.work.now c.add_all.new.work c.items.result.now (g.met.N.StoreView.ordered c.args.after.now)
    (c.items.ensures ∙ (c.in_ok-names.ensures ∙ ap (λ (db : Db). map (named c.args.table) (holders_at db c.args.table.0 c.args.column.0 c.args.key.now)) (g.met.N.Linked.one c.args.after.now)))
    c.in_ok-add_all.ensures
