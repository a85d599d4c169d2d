use Rattle.schema_draft.specs.declared.names.Named.TheVariants.{Table}
use Rattle.schema_draft.proofs.NameLookups.{AddsNames-push}
use Rattle.schema_draft.proofs.names.Names.add_tables.Goals as goal

pub loop-number-preserved : goal.loop-number-preserved
loop-number-preserved c =
    AddsNames-push (λ number. Table (record { 0 = number })) (λ table. table.name) c.args.tables.now c.loop-number.number c.index-tables-number.result
    c.loop-number-test.true c.index-tables-number.is c.loop-number.invariant c.in_ok-add.ensures
