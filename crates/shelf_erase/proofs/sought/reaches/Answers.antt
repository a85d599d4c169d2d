use Rattle.std.proofs.Common.{List, subst}
use Rattle.std.specs.Prelude.{◌↔◌, Contains, IsTrue}
use Rattle.own_base.specs.declared.row_name.Subject.{Subject}
use Rattle.state_model.proofs.CreatedSchema.{owner_schema-created}
use Rattle.shelf_erase.proofs.SoughtLemmas.{among-reaches}
use Rattle.shelf_erase.proofs.sought.reaches.Goals as goal

pub returns : goal.returns
returns g c =
    let db = g.V.StoreView.db c.args.view.now in
    among-reaches db c.requires.well_formed.ordered (owner_schema-created db c.requires.well_formed.created) c.args.subject.now c.args.name.now c.is_among.result
    (subst (λ (list : List Subject). IsTrue c.is_among.result ↔ Contains list c.args.subject.now) c.reach.ensures c.is_among.ensures)
