use Rattle.std.proofs.Common.{◌≡◌, true, false, not, length, List, sym, ap, ◌∙◌}
use Rattle.std.specs.Prelude.{◌==◌}
use Rattle.own_base.specs.declared.row_name.Subject.{Subject}
use Rattle.own_model.specs.declared.schema.Schema.{Schema}
use Rattle.schema_model.specs.Tables.{is_private}
use Rattle.subject_model.specs.Named.{is_there}
use Rattle.subject_model.specs.Owners.{has_owner}
use Rattle.change_check.proofs.UnownedCells.{none_told}
use Rattle.change_check.proofs.owner.is_unowned.Goals as goal
use Rattle.change_check.proofs.owner.is_unowned.Goals.{then-is_private, else-is_private}

pub returns-then-is_there : goal.returns-then-is_there
returns-then-is_there g c =
    let db = g.V.StoreView.db c.args.view.now in
    let name = c.args.name.now in
    let lacks : c.is_empty.result ≡ not (has_owner db name) =
    c.is_empty.ensures
    ∙ (ap (λ (told : List Subject). length told == 0) c.owners.ensures ∙ none_told db name (g.met.V.StoreView.ordered c.args.view.now) c.requires) in
    elim c.if-is_private.branch [
      | then-is_private w ↦
          let private : is_private db.schema name.table.0 ≡ true =
          ap (λ (schema : Schema). is_private schema name.table.0) (sym c.schema.ensures) ∙ (sym c.is_private.ensures ∙ w.if-is_private.true) in
          let there : is_there db name ≡ true = sym w.is_there.ensures ∙ (sym w.value-is ∙ c.if-is_there.true) in
          rw (private, there) lacks
      | else-is_private w ↦ let never : false ≡ true = sym w.if-is_private.false ∙ (sym w.value-is ∙ c.if-is_there.true) in cc
    ]
