use Rattle.std.proofs.Common.{sym, ◌∙◌, ap}
use Rattle.own_model.specs.declared.schema.Schema.{Schema}
use Rattle.schema_model.specs.Tables.{is_subject}
use Rattle.owner_index.proofs.OneRowLemmas.{below-subject}
use Rattle.owner_index.proofs.settle.add_heirs.Goals as goal

pub returns-else-not-is_subject-clause-below : goal.returns-else-not-is_subject-clause-below
returns-else-not-is_subject-clause-below g c =
    below-subject (g.V.StoreView.db c.args.view.now) c.args.name.now c.args.work.now
    (ap (λ (s : Schema). is_subject s c.args.name.now.table.0) (sym c.schema.ensures) ∙ (sym c.is_subject.ensures ∙ c.if-not-is_subject.false))
