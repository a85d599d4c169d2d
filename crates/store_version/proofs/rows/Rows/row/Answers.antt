use Rattle.std.proofs.Common.{◌<◌, ◌∙◌, ap, length, subst, sym}
use Rattle.own_model.specs.Db.{Db}
use Rattle.own_model.specs.Stored.{row_named}
use Rattle.store_version.proofs.NamedRows.{row-named}
use Rattle.store_version.proofs.rows.Rows.row.Goals as goal

pub returns : goal.returns
returns c =
    let within = subst (λ (db : Db). c.args.name.now.table.0 < length db.schema.tables) (sym c.self.view_is) c.requires in
    c.get.ensures ∙ (row-named c.self.inside.catalog.value.schema c.self.inside.parts.items c.args.name.now c.index.result.now c.self.invariant.0 within c.index.ensures ∙ ap (λ db. row_named db.schema db.rows c.args.name.now) c.self.view_is)
