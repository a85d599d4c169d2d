use Rattle.owner_model.proofs.ColumnSetLemmas.{set_of-none}
use Rattle.owner_model.specs.RuledColumns.{blanks}
use Rattle.anon_rules.proofs.SetsOverLists.{some_of_first-more}
use Rattle.anon_rules.proofs.blanked.Goals as goal

pub loop-number-init : goal.loop-number-init
loop-number-init c = set_of-none

pub loop-number-preserved : goal.loop-number-preserved
loop-number-preserved c =
    some_of_first-more (λ number column. blanks c.args.edges.now column number) c.args.by.now c.loop-number.number-index (record { 0 = 0 })
    (record { 0 = c.loop-number.columns }) c.columns_of-columns.result c.loop-number-test.true c.loop-number.invariant c.columns_of-columns.ensures
