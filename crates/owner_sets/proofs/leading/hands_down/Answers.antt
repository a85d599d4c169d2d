use Rattle.std.proofs.Common.{◌≡◌, true, sym, ap, ◌∙◌}
use Rattle.own_model.specs.declared.schema.Schema.{Schema}
use Rattle.schema_model.specs.Tables.{is_subject}
use Rattle.owner_sets.proofs.LeadingLemmas.{named-handed}
use Rattle.owner_sets.proofs.leading.hands_down.Goals as goal

-- a subject row hands down itself
pub returns-then-is_subject : goal.returns-then-is_subject
returns-then-is_subject g c =
    let schema = (g.V.StoreView.db c.args.view.now).schema in
    let is : is_subject schema c.args.table.0 ≡ true =
    ap (λ (s : Schema). is_subject s c.args.table.0) (sym c.schema.ensures) ∙ (sym c.is_subject.ensures ∙ c.if-is_subject.true) in
    c.is_named.ensures ∙ named-handed schema (g.V.StoreView.db c.args.view.now).rows c.args.reach.now c.args.table.0 c.args.at c.args.subject.now is
