use Rattle.schema_draft.specs.declared.names.Named.TheVariants.{View}
use Rattle.schema_draft.proofs.NameLookups.{AddsNames-push}
use Rattle.schema_draft.proofs.names.Names.add_views.Goals as goal

pub loop-number-preserved : goal.loop-number-preserved
loop-number-preserved c =
    AddsNames-push (λ number. View (record { 0 = number })) (λ view. view.name) c.args.views.now c.loop-number.number c.index-views-number.result
    c.loop-number-test.true c.index-views-number.is c.loop-number.invariant c.in_ok-add.ensures
