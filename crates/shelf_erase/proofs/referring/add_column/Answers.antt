use Rattle.std.proofs.Common.{◌<◌, ◌^◌, ◌∙◌, ap, map, arith, rules}
use Rattle.std.proofs.lemmas.Result.{on_ok_weaker}
use Rattle.own_model.specs.Db.{Db}
use Rattle.link_model.specs.Holds.{holders_at}
use Rattle.shelf_erase.specs.Upper.{named}
use Rattle.shelf_erase.proofs.ReferringLemmas.{column-within, refers-names}
use Rattle.shelf_erase.proofs.referring.add_column.Goals as goal

pub overflow_cast-place : goal.overflow_cast-place
overflow_cast-place g c =
    let few = column-within (g.V.StoreView.db c.args.view.now) c.args.table.0 c.args.definition.now c.args.number c.args.column.now c.requires.sound c.requires.table c.requires.column in
    let fits : c.args.number < 2 ^ 32 = omega arith in
    search rules

pub returns : goal.returns
returns g c =
    let db = g.V.StoreView.db c.args.view.now in
    let table = c.args.table in
    on_ok_weaker c.add_names.result
    (λ tells. refers-names db c.args.subject.now.0 c.requires.sound.well_formed.ordered c.args.gone.now table c.args.column.now c.args.number c.items.result.now c.args.changes.now c.add_names.new.changes
    (c.items.ensures ∙ (c.in_ok-names.ensures ∙ ap (λ (d : Db). map (named table) (holders_at d table.0 c.args.number c.args.gone.now.key)) (g.met.V.Linked.one c.args.view.now))) tells)
    c.add_names.ensures
