use Rattle.std.proofs.Common.{false, ap, sym, ◌∙◌}
use Rattle.std.specs.Prelude.{not, ◌&&◌}
use Rattle.std.specs.List.{list_all}
use Rattle.owner_model.proofs.ColumnSetLemmas.{set_of-all, set_of-none, set_of-same}
use Rattle.owner_model.specs.RuledColumns.{hides, is_hidden}
use Rattle.anon_rules.proofs.SetsOverLists.{all_of_first-more}
use Rattle.anon_rules.proofs.hidden.Goals as goal

pub returns-then-is_empty : goal.returns-then-is_empty
returns-then-is_empty c =
    set_of-none ∙ set_of-same (λ _. false) (is_hidden c.args.edges.now c.args.by.now) (λ column _.
    ap (λ empty. not empty && list_all (hides c.args.edges.now column) c.args.by.now) (sym c.if-is_empty.true ∙ c.is_empty.ensures))

pub loop-number-init : goal.loop-number-init
loop-number-init c = set_of-all

pub loop-number-preserved : goal.loop-number-preserved
loop-number-preserved c =
    all_of_first-more (λ number column. hides c.args.edges.now column number) c.args.by.now c.loop-number.number-index (record { 0 = 0 })
    (record { 0 = c.loop-number.columns }) c.columns_of-columns.result c.loop-number-test.true c.loop-number.invariant c.columns_of-columns.ensures
