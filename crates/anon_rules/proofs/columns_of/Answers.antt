use Rattle.std.proofs.Common.{rules, sym, ◌∙◌, ap}
use Rattle.std.specs.Int.Bits.{or_zero_r}
use Rattle.owner_model.proofs.ColumnSetLemmas.{set_of-none}
use Rattle.anon_rules.specs.Ruled.{rules_column}
use Rattle.anon_rules.proofs.SetsOverLists.{some_of_first-more}
use Rattle.anon_rules.proofs.RuledEdges.{ruled-at, ruled-elsewhere}
use Rattle.anon_rules.proofs.columns_of.Goals as goal
use Rattle.anon_rules.proofs.columns_of.Goals.{then-eq, else-eq}

pub loop-edge-init : goal.loop-edge-init
loop-edge-init c = set_of-none

pub loop-edge-preserved : goal.loop-edge-preserved
loop-edge-preserved c =
    elim c.if-eq.branch [
      | then-eq w ↦
          ap (λ number. record { 0 = number }) w.ruled-is
          ∙ some_of_first-more (rules_column c.args.rule c.args.number) c.args.edges.now c.loop-edge.edge-index _
          (record { 0 = c.loop-edge.ruled }) w.of-ruled.result c.loop-edge-test.true c.loop-edge.invariant
          (ruled-at c.args.rule c.args.number _ w.of-ruled.result (search rules) w.of-ruled.ensures (sym c.eq.ensures ∙ w.if-eq.true))
      | else-eq w ↦
          ap (λ number. record { 0 = number }) (w.ruled-is ∙ sym (or_zero_r c.loop-edge.ruled))
          ∙ some_of_first-more (rules_column c.args.rule c.args.number) c.args.edges.now c.loop-edge.edge-index _
          (record { 0 = c.loop-edge.ruled }) (record { 0 = 0 }) c.loop-edge-test.true c.loop-edge.invariant
          (set_of-none ∙ ruled-elsewhere c.args.rule c.args.number _ (sym c.eq.ensures ∙ w.if-eq.false))
    ]
